-- Lemmas of the proofs about decoding with k base rows.
--     Preparing    a column and the inverses behind it
--     Undoing      the column undone
--     Slicing      slices that begin at a column
--     Columns      the columns, one behind the other
--     Drawing      words that stand apart, in front
--     Grouping     the groups, one behind the other
--     Messages     the groups solved are the message
pub mod Preparing
pub mod Undoing
pub mod Slicing
pub mod Columns
pub mod Drawing
pub mod Grouping
pub mod Messages
