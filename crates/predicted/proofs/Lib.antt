mod Given
pub mod First
pub mod Theorems
pub mod Fixed
