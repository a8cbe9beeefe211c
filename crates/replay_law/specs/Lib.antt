pub mod Atomics
pub mod Laws
pub mod Worked
