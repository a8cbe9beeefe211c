pub mod FirstNumber
pub mod Holds
pub mod Table
pub mod Others
pub mod Follow
