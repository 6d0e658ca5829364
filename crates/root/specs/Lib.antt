pub mod Said
pub mod Whole
pub mod Root
pub mod Form
pub mod Tested
pub mod Paper
