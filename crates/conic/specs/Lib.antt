pub mod Said
pub mod TimeAndRatio
pub mod Unfolding
