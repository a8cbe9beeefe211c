pub mod Parts
pub mod Still
pub mod OneTurn
pub mod Sent
pub mod Working
