pub mod Refusals
pub mod Passed
pub mod Fair
pub mod Range
pub mod Theorems
pub mod Fixed
