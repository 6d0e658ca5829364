pub mod Fitting
pub mod Fixed
