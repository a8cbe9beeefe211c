pub mod Places
pub mod Cursor
pub mod Rules
pub mod Orderly
pub mod Worked
pub mod Holders
pub mod Laws
