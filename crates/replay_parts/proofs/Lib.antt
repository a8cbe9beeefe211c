pub mod Within
pub mod Led
pub mod Turned
pub mod Rising
pub mod Advancing
