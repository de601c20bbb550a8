-- Laws that belong to no one function.
--     Judged    what is known once nothing is refused
pub mod Judged
