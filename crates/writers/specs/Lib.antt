pub mod Errors
pub mod Writers
pub mod Named
pub mod Asked
pub mod Whole
pub mod Loads
pub mod Examples
