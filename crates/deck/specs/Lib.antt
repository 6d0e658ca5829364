pub mod Tally
pub mod Said
pub mod Check
