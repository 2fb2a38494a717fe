pub mod Groups
pub mod Laws
pub mod Masts
pub mod Texts
