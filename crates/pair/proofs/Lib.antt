-- Lemmas of the proofs about pairs of residues.
--     Parts    the words of products of pairs
pub mod Parts
