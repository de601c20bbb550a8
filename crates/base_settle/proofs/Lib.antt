-- Lemmas of the proofs.
--     Deciding    what trying a block answered settles it
pub mod Deciding
