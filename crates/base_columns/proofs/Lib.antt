-- Lemmas of the proofs about decoding base blocks.
--     Reaching    two counters that a loop moves together
--     Solving     the base messages solved, part by part
--     OneWord     base messages of one word
pub mod Reaching
pub mod Solving
pub mod OneWord
