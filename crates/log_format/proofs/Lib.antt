pub mod Exact
pub mod Grammar
pub mod Loop
pub mod Ranges
mod Fits
pub mod Spelling
pub mod Sizes
mod Packed
mod PartsOf
mod Places
