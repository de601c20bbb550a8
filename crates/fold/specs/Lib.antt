-- Folding a block by one level.
--     Job         the refusals, the answer and the result, for every input
pub mod Job
