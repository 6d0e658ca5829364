pub mod Fields
pub mod Made
