pub mod Listing
pub mod Judged
