pub mod Century
pub mod Priced
