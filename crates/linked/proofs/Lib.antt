mod Refused
pub mod Fixed
