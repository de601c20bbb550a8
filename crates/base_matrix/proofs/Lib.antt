-- Lemmas of the proofs about base matrices.
--     Products    a row vector times a matrix, term by term; the words of a multiple
--     Cells       the adjugate and the inverse, place by place
pub mod Products
pub mod Cells
