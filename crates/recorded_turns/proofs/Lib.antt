pub mod Taking
pub mod Loops
pub mod Going
pub mod Advanced
pub mod Over
pub mod Recordings
