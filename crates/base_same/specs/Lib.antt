-- A block compared column by column with a codeword of k base rows.
--     Steps    what the steps are lent; column_words
pub mod Steps
