-- Decoding with k base rows, column by column.
--     Steps        decoded_rows: THE ONLY MESSAGE that a block allows; RowsInput: what its steps are lent, and what they leave
--     ByColumns    undo_columns: a code is undone column by column
--     Laws         decoded_columns: the message is what the groups of words across the undone columns solve to
--     Codewords    only_message, codeword_exactly: a message whose codeword the block is, is the one that is decoded
pub mod Steps
pub mod ByColumns
pub mod Laws
pub mod Codewords
