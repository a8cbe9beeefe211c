pub mod StateAfterMove
pub mod DeviceHarts
pub mod Rows
pub mod FirstState
