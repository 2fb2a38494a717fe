pub mod Best
pub mod Groups
pub mod Indices
pub mod Places
pub mod Reaches
