-- Laws that belong to no one function.
--     Writes    what the parts of the whole are lent
pub mod Writes
