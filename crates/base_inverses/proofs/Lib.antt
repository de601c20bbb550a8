-- Lemmas of the proofs about inverses.
--     Inverting    the inverses of the columns, part by part
pub mod Inverting
