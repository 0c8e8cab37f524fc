pub mod Faults
pub mod Format
pub mod Reading
pub mod View
pub mod Answers
pub mod Exact
pub mod Writing
