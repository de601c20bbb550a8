-- Lemmas of the proofs about sums.
--     Adding       a multiple of a row added, word by word
--     Lowering     sums that come out divided, and factors that are multiplied before
pub mod Adding
pub mod Lowering
