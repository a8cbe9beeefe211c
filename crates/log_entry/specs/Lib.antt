pub mod Waits
pub mod Room
pub mod Size
pub mod Parts
pub mod Range
