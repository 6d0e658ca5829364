mod Measuring
mod Laying
pub mod Fixed
