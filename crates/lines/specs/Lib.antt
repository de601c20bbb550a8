-- Folding a block into the values of its lines at a challenge.
--     Folds       THE WORDS OF A FOLD
--     Steps       what the inner loops hold
--     Behind      a fold that is written behind its block
--     Laws        the words of a fold are those of the code's fold
pub mod Folds
pub mod Steps
pub mod Behind
pub mod Laws
