pub mod Said
pub mod Lambert
