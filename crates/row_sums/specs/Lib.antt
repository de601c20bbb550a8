-- Sums of multiples of words and rows.
--     Sums    what they are lent, and what they are
pub mod Sums
