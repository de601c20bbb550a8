-- What the jobs promise together, over the definitions that their contracts cite.
--     Calls, Commit, Equations   THE DEFINITIONS: calls on legal base matrix and diagonals; committing, opening and verifying in turn; what the verifier compares
--     Descents                   .. and a block folded down to level 0, with how many lists of challenges leave a codeword
--     CallLaws, NotRefused       the code of a legal base matrix; which calls are refused by none of 1 to 6 and 13
--     Folds                      fold_law, two_challenge_law
--     FoldCalls                  two_challenge_calls: the same, said of calls (fold_law_calls in proofs/FoldLawCalls)
--     Filled                     filled_one, filled_row, filled_encodes: what is filled by rule is legal, and encoding writes the values of one polynomial
--     Openings                   opening_accepted, opening_fails
--     Accepts                    accepts_exactly, rejects_exactly: when the verifier answers 0, and when it names a check
--     Repeats                    repeats_exactly: when it refuses with 11
--     Named                      reading_named to verifying_named: WHERE 4, 5 and 6 say that the first fault is
--     OneWord                    code_one, accepts_one: with one word a base message these are the code of one base row, v * eq(z, r) and v * g[j]
--     Honest                     commit_accepted: committing, opening and verifying in turn answers 0
--     Starred                    starred_numbers, two_word_numbers: the order's starred numbers, as one table; numbers of two words a base message, as another
-- The theorems on them are in proofs/ where a must-fail edit changes what they rest on: FoldLawCalls, Lucky, LuckyCalls, Starred.
pub mod Calls
pub mod CallLaws
pub mod NotRefused
pub mod Folds
pub mod FoldCalls
pub mod Descents
pub mod Filled
pub mod Openings
pub mod Equations
pub mod Accepts
pub mod Repeats
pub mod Named
pub mod OneWord
pub mod Commit
pub mod Honest
pub mod Starred
