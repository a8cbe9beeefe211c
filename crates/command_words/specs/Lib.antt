pub mod Texts
pub mod Options
pub mod Tables
pub mod Grammar
pub mod Behind
pub mod Allowed
pub mod Laws
