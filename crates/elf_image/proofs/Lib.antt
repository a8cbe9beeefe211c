pub mod Layers
pub mod Bits
pub mod Headers
pub mod NoBrokenRule
pub mod Contents
pub mod Overlay
