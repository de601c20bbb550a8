-- Laws that belong to no one function.
--     Sends     h by its values
--     Folds     the loop that folds
--     Places    h in an opening
pub mod Folds
pub mod Places
pub mod Sends
