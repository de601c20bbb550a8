-- Laws that belong to no one function.
--     Flags    what the flags of a call promise
pub mod Flags
