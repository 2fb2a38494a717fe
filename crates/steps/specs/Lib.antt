pub mod Faults
pub mod Limits
pub mod View
pub mod Steps
pub mod Monotone
pub mod Texts
