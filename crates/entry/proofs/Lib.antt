pub mod Refusals
pub mod Passed
pub mod AtZero
pub mod FarEnd
pub mod Fair
pub mod Range
pub mod Theorems
pub mod Fixed
