-- What the proofs of several functions use.
mod Stores
mod Tenths
mod Listed
mod Inputs
pub mod ReadBack
