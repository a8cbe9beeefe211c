pub mod Boards
pub mod Parts
pub mod Orders
pub mod Turns
pub mod Laws
