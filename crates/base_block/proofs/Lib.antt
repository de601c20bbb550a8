-- Lemmas of the proofs about one block.
--     Summing      a base message times the base matrix, row by row
pub mod Summing
