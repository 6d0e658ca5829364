pub mod Worked
pub mod Accepted
pub mod Rejected
pub mod Made
pub mod Fixed
