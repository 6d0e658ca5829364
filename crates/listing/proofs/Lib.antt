pub mod Longest
pub mod Showing
pub mod Fixed
