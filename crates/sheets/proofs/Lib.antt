pub mod Lines
pub mod Fixed
