pub mod Length
pub mod Lowest
pub mod Fixed
