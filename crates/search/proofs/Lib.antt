pub mod Hunt
pub mod Turns
pub mod Count
pub mod Laws
pub mod Answers
pub mod Theorems
pub mod Fixed
