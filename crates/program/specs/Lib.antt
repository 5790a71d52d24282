pub mod Search
pub mod Rows
pub mod Table
pub mod HashedLegacy
pub mod Runs
pub mod Examples
