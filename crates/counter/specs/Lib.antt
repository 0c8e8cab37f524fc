pub mod Book
pub mod Faults
pub mod Law
pub mod Run
pub mod View
