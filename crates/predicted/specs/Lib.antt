pub mod Predicted
