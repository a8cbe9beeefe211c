pub mod Legs
pub mod Sweeps
pub mod Rounds
pub mod Replays
