-- Encoding with a base matrix of k rows: blocks of k words a base message.
--     LentRows       lent_rows, codeword_rows: THE CODE of k base rows as it is lent; RowCoding
--     LentRowLaws    lent_one: one row is the code of `parameters`; lift_rows, first_coding: the levels above the base depend on the length of a row alone; row_coding: what the tests say makes the code legal
--     Steps          what the steps of encoding are lent, and what they leave
pub mod LentRows
pub mod LentRowLaws
pub mod Steps
