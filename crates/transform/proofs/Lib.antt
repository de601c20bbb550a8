-- What the proofs of the functions share.
--     Crossing  the loop over a block
--     Blocks    lists block by block
--     Passing   the loop over the blocks, and the loop over the passes
pub mod Crossing
pub mod Blocks
pub mod Passing
