pub mod Said
pub mod Arc
