pub mod Format
pub mod Grammar
pub mod Answers
pub mod Writing
pub mod Sizes
pub mod Parts
pub mod Pieces
pub mod Given
