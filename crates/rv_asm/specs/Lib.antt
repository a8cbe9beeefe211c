pub mod Names
pub mod Text
pub mod Grammar
pub mod Keys
pub mod Scan
