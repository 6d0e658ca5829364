pub mod Widths
pub mod Fixed
