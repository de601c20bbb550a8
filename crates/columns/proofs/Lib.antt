-- Lemmas of comparing column by column.
--     Crossing     the loop over a level of words below the modulus
--     Loops        the loops over the places of a column
--     Lifting      a column over its two halves
--     Comparing    the columns of words, and the comparison of what is lifted
pub mod Crossing
pub mod Loops
pub mod Lifting
pub mod Comparing
