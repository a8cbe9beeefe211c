pub mod Known
pub mod Shifts
pub mod Bursts
pub mod Calls
