mod Turns
pub mod Taking
pub mod Theorems
pub mod Fixed
