pub mod Said
pub mod Search
pub mod Answers
