-- Lemmas of the passes.
--     Crossing     the loop over one block
--     Sweeping     the loop over the blocks of a level
--     LowLevels    the loop over the low levels
pub mod Crossing
pub mod Sweeping
pub mod LowLevels
