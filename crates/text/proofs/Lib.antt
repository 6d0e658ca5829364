pub mod Length
pub mod Digits
pub mod Fixed
