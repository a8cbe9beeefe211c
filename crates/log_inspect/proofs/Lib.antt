pub mod ByNumber
pub mod Numbered
pub mod Pages
pub mod Ties
