mod Copying
pub mod Theorems
pub mod Fixed
