-- What is put for each query of a hash tree.
--     Queries   THE DEFINITIONS: put_each, and the words and siblings that are put
--     Parts     each query changes its own part of the buffer alone
pub mod Queries
pub mod Parts
