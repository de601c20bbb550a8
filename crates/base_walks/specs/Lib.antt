-- The checks of the blocks, over base messages of several words.
--     Steps    what base and fold checks are lent
pub mod Steps
