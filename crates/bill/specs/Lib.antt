pub mod Bills
pub mod Lines
pub mod Orders
pub mod Statements
pub mod Words
