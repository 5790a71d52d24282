pub mod Reading
pub mod Slots
pub mod Blocks
pub mod Rotation
pub mod Words
pub mod Table
pub mod Undo
pub mod Injective
