pub mod Theorems
pub mod Departing
pub mod Honest
pub mod Worked
pub mod Fixed
