pub mod Image
pub mod Elf
pub mod Rules
pub mod Loading
pub mod Marks
pub mod Layers
