-- Theorems on the definitions and theorems of specs/ whose must-fail edits change those.
--     FoldLawCalls   fold_law_calls: fold_law, said of calls
--     Lucky          lucky_law, lucky_law_none, lucky_law_part, lucky_sixteen: how often a block that is no codeword slips through
--     LuckyCalls     folds_down_calls, lucky_calls: the same, said of calls
--     Starred        starred, two_words: the numbers of specs/Starred hold
pub mod FoldLawCalls
pub mod Lucky
pub mod LuckyCalls
pub mod Starred
