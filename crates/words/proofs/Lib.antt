pub mod Value
pub mod Written
pub mod Standing
pub mod Fixed
