pub mod Words
pub mod Addresses
pub mod Memory
pub mod Modes
pub mod Limits
