-- Folding a block of pairs by one level.
--     Steps      what the inner loop is lent, and the lines
--     Folding    what is lent, and THE FOLD
--     Laws       the line by the inverse is the line; the fold is that of the code over the pairs
pub mod Steps
pub mod Folding
pub mod Laws
