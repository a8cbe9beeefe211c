pub mod ByNumber
pub mod Listing
pub mod Totals
pub mod Table
