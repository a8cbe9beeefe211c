pub mod NoDeadlock
pub mod Outcomes
