pub mod Gates
pub mod Distances
pub mod View
pub mod Edits
pub mod Parts
pub mod Causes
pub mod Changes
pub mod Text
