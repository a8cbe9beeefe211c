pub mod BoardWants
pub mod LeanRecordings
