pub mod Sweeping
pub mod Going
pub mod Rounding
pub mod Replaying
pub mod Settling
