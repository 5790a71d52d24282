-- What the proofs of several functions use.
pub mod Folds
pub mod Slots
pub mod Places
pub mod Turns
pub mod Writing
pub mod Telling
pub mod Agreeing
pub mod Marking
pub mod Exact
pub mod Codes
