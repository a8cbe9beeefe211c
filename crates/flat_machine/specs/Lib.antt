pub mod State
pub mod Moves
pub mod Acts
pub mod Runs
pub mod HartMoves
