pub mod Hash
pub mod Find
pub mod Laws
pub mod Examples
