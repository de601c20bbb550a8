-- Passes over the levels of the code, in loose words.
--     Steps    what they are lent, and what they leave
pub mod Steps
