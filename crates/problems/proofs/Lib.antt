mod Widths
mod Answering
pub mod Made
pub mod Theorems
pub mod Fixed
