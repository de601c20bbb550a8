-- Lemmas of the proofs.
--     Steps     the walk over n numbers that are judged
--     Turns     one number more of a list that is read from the front
--     Sizes     how many bytes words take, counted word by word
--     Puts      what writing a word leaves to be written
pub mod Steps
pub mod Turns
pub mod Sizes
pub mod Puts
