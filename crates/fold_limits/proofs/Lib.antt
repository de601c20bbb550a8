-- Lemmas of the proofs.
--     Levels      what the tests of level, rate and k0 say
pub mod Levels
