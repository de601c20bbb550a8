-- The inverses of the differences of the diagonals, of several columns.
--     Inverses    InvertedTo: where they stand; what they are made of
pub mod Inverses
