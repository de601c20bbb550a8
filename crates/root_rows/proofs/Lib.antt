-- Laws that belong to no one function.
pub mod Negatives
pub mod Places
