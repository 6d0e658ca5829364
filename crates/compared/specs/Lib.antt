pub mod Said
pub mod Compared
