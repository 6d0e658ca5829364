pub mod Records
pub mod Fixed
