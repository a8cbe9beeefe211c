pub mod Rows
pub mod Groups
pub mod Back
pub mod Encoding
pub mod Forward
pub mod Laws
