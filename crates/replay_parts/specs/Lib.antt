pub mod Boards
pub mod Parts
pub mod Turns
pub mod Laws
