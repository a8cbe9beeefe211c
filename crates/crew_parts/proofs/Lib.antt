mod States
mod Reaching
mod Setting
pub mod Turned
mod Frames
mod OtherParts
mod Advancing
mod Exact
mod Holding
pub mod Laws
