-- Lemmas of comparing a block column by column.
--     Writing      one column of the base blocks of a message
--     Comparing    the columns of a codeword of k base rows
pub mod Writing
pub mod Comparing
