pub mod Stated
pub mod Cards
pub mod Walking
pub mod Opened
pub mod Meeting
pub mod Sizes
pub mod Theorems
pub mod Fixed
