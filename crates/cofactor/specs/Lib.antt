-- The base matrix as it is lent, and the cofactors of its first columns.
--     Rows         Size, rows, first_columns: THE BASE MATRIX of k rows of n words; Lent
--     RowLaws      lent_rate; first_columns_lem: the first columns, entry by entry
--     Cofactors    cofactor_at, and what is read for it
pub mod Rows
pub mod RowLaws
pub mod Cofactors
