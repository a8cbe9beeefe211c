pub mod Lists
pub mod Entries
pub mod Places
pub mod Rules
pub mod Judged
pub mod Replays
pub mod Recordings
