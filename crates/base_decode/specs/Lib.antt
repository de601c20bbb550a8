-- Whether a block is a codeword of a code of k base rows.
--     Decoding    DecodeRows: what is lent; Tried: THE ANSWER, and the message
pub mod Decoding
