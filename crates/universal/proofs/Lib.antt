pub mod Coefficients
pub mod Worked
pub mod Range
pub mod AtZero
pub mod Theorems
pub mod Fixed
