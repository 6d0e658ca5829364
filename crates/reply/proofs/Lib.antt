pub mod Replied
pub mod Fixed
