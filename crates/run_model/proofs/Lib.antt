pub mod Addresses
mod Aheads
mod DataPlaces
pub mod Sight
mod Moves
mod AfterMove
mod Legs
mod Handover
mod Start
pub mod Laws
pub mod Numbers
pub mod PagesHeld
