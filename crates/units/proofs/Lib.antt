pub mod Places
pub mod Refusals
pub mod Positive
pub mod Theorems
pub mod Fixed
