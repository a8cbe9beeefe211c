pub mod Manning
pub mod Listing
