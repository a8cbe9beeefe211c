pub mod Units
pub mod Memory
