-- The block of a level as the fold of the block above it, over base messages of several words.
--     RowDescending    what the step is lent, and the fold
pub mod RowDescending
