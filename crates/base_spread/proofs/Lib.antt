-- Lemmas of the proofs about base blocks.
--     Scaling      a base message whose words take a factor
--     Spreading    the base blocks of a message, one by one
--     Encoding     the base blocks, and then the levels above
pub mod Scaling
pub mod Spreading
pub mod Encoding
