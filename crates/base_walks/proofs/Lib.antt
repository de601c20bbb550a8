-- Laws that belong to no one function.
--     Begins      where blocks begin and end, as it is computed
--     ReadRows    the blocks of an opening that is lent for checking, and a fold check by its words
--     BaseRows    the base checks are those of v and of block 0 as they are read
pub mod Begins
pub mod ReadRows
pub mod BaseRows
