pub mod Hills
pub mod Text
pub mod Parts
