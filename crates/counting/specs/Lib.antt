-- How often a block that is no codeword is folded into a codeword: at most p^d - (p-1)^d of the p^d lists of challenges do it.
--     Challenges          THE DEFINITIONS: lists, count, challenge_words; all_elements, challenges, folds, lucky
--     Part                at_most_part: which part of p^d the bound is
--     Count               count_but_one: counting over lists of which all but one hold few
-- The theorems on them are in proofs/: Every, Words, Lucky, LuckyBound, Tried.
pub mod Challenges
pub mod Part
pub mod Count
