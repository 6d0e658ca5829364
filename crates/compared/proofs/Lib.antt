pub mod Words
pub mod Seconds
pub mod Answered
pub mod Rejecting
pub mod Theorems
pub mod Fixed
