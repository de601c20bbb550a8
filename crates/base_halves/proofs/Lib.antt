-- Lemmas of comparing a block with a codeword of k base rows.
--     Halving     a block of two halves by what is left of it, as tests of words
--     Stepping    a step from a level to the one below
--     Checking    from level to level, down to one base message
pub mod Halving
pub mod Stepping
pub mod Checking
