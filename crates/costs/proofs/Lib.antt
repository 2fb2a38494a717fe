pub mod Ends
pub mod Numbers
pub mod Reaching
pub mod Spans
