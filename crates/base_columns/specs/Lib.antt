-- Decoding base blocks of a base matrix of k rows.
--     Steps     THE CONTRACT: BlocksLent, solved_blocks
--     Pieces    lists of one length, one behind the other: piece; pick_pieces
pub mod Steps
pub mod Pieces
