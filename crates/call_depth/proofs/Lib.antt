pub mod Sizes
pub mod Entries
pub mod Fits
pub mod Few
pub mod After
pub mod Meaning
pub mod Waits
