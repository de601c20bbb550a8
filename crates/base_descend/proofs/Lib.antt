-- Laws that belong to no one function.
--     Offsets  where the diagonals of a level begin
--     Parts    the two blocks as one part of the opening
pub mod Offsets
pub mod Parts
