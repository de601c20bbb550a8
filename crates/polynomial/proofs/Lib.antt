pub mod Values
pub mod Factors
pub mod LowMonomials
