-- Pairs of residues and the pairs of elements that they stand for.
--     PairWords       what a pair of residues and a list of words stand for
--     PairWordLaws    lists of words by their pairs, and back
pub mod PairWords
pub mod PairWordLaws
