pub mod Sizes
pub mod Packed
pub mod Numbers
pub mod Given
pub mod Parts
pub mod Theorems
pub mod Fixed
