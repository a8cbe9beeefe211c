pub mod Manned
pub mod Listed
