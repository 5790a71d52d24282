-- What the proofs of several functions use.
mod Writing
mod Giving
mod Named
mod Told
mod GivingBoth
mod Measuring
