pub mod Run
pub mod Agreement
pub mod Legs
pub mod Laws
pub mod Numbers
pub mod PagesHeld
