-- The parts of a step that compares a block with a codeword of k base rows.
--     Steps    what they are lent, and what they leave
pub mod Steps
