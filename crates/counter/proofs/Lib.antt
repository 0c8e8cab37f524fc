pub mod Examples
pub mod Lines
pub mod Ordered
pub mod Running
pub mod Runs
pub mod Taking
