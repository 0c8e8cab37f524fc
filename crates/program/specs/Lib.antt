pub mod Endings
pub mod Numbers
pub mod Refusals
