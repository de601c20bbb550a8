-- Lemmas of the proofs about cofactors.
--     Minors    the rows and columns that a minor keeps; its determinant
pub mod Minors
