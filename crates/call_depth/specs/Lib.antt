pub mod Errors
pub mod Called
pub mod Asked
pub mod Meaning
pub mod Loads
pub mod Examples
