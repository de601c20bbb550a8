-- The rounds of an opening over base messages of several words.
--     RowOpening    opening_rows: THE WORDS of an opening, with `low` low variables; what is lent to write them
--     RowRounds     what a whole round is lent, and what it leaves
--     OpeningLaws   the length of an opening, of any code
--     RowLaws       how many rows and words there are; what the parts of a round are lent
pub mod RowOpening
pub mod RowRounds
pub mod OpeningLaws
pub mod RowLaws
