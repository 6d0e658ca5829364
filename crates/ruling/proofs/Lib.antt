pub mod Reasons
pub mod Theorems
pub mod Fixed
