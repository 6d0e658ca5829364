pub mod Kepler
