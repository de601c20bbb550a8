-- Undoing the code on one column of a block.
--     Steps    what the steps are lent, and what they leave
pub mod Steps
