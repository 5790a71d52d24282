pub mod Answers
pub mod Told
pub mod Wrote
pub mod Depth
pub mod Names
pub mod Examples
