-- The inverses of T' - T in neighbouring places, row by row.
--     Rows         what the loops over rows are lent and hold
pub mod Rows
