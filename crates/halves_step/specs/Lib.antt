-- The two parts of a step that compares a block with a codeword.
--     Steps    what they are lent, and what they leave
pub mod Steps
