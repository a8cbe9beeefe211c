pub mod Machine
pub mod Sizes
pub mod Waiting
pub mod Seated
pub mod Entries
pub mod Yielding
pub mod Committing
pub mod Claiming
pub mod Stepping
pub mod Gaining
pub mod Ordinals
pub mod Polling
pub mod Touching
pub mod Going
pub mod Giving
pub mod Accessing
pub mod Keeping
pub mod Beginning
pub mod Needing
pub mod Dispatching
pub mod Sequence
pub mod Resting
pub mod StepOrder
mod Rows
mod WholeTurns
mod SentBytes
mod EndsOfTurns
pub mod Sets
pub mod BoardTurns
pub mod BoardStarts
mod BoardEnds
pub mod Hands
