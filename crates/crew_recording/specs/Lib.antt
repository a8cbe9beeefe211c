pub mod Recording
pub mod Allowed
pub mod Laws
