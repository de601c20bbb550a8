-- Lemmas of undoing a column.
--     Places        lists by their places
--     Lines         a level's words are those of the lines at 0 and of the slopes
--     Uncrossing    the loop over a level
--     Undoing       a column over its two halves
pub mod Places
pub mod Lines
pub mod Uncrossing
pub mod Undoing
