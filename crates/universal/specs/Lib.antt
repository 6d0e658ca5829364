pub mod Series
pub mod Functions
