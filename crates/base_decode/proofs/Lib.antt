-- Lemmas of deciding whether a block is a codeword of k base rows.
--     Deciding    a block is a codeword exactly where it is that of the message which its first k columns allow
pub mod Deciding
