pub mod Parts
pub mod ReplayTurns
pub mod ReplayLegs
pub mod Workers
pub mod Nexts
