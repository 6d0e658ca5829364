pub mod Coincidence
