pub mod Supplies
pub mod Reached
pub mod Polls
pub mod Waits
pub mod GivenLegs
pub mod Laws
pub mod EndLaws
