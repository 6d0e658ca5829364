pub mod Forms
pub mod Sizes
pub mod Theorems
pub mod Fixed
