-- Lemmas of the proofs of folding pairs.
--     Drawing     lines drawn from the last place down
--     Room        the inverses in the first half of the room
--     Straight    one line; the lines from the inverses are the fold
pub mod Drawing
pub mod Room
pub mod Straight
