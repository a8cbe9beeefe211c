pub mod Parts
pub mod RecordBoards
pub mod RecordLegs
pub mod Workers
pub mod Nexts
pub mod Recordings
pub mod Laws
