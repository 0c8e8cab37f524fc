pub mod TwoRates
pub mod Rates
