-- The limits of a fold.
--     Limits      level_ok, fold_limits, lengths_ok: the tests for 1, 2, 13 and 3
pub mod Limits
