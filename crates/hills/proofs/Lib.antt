pub mod Adding
pub mod Sloping
pub mod Texts
