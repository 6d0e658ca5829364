pub mod Epochs
pub mod Length
pub mod Fixed
