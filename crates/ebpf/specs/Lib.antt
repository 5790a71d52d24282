pub mod Choice
pub mod LittleEndian
pub mod Murmur3
pub mod IndexKeys
pub mod Instructions
pub mod Vectors
