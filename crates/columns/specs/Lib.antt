-- One column of a block, and the levels of the code over it.
--     Steps    what the steps are lent
pub mod Steps
