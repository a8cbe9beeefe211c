pub mod Directory
pub mod Laws
