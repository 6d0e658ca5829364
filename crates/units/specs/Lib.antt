pub mod Units
pub mod Said
