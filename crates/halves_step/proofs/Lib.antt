-- Lemmas of the two parts of a step.
--     Places       lists that are the same in front, and a part of a list that was lent and is back
--     Encodes      base blocks, lifted, are the codeword
--     Spreading    the codeword of the right half, written behind the message
--     Peeling      the loops that peel it off
pub mod Places
pub mod Encodes
pub mod Spreading
pub mod Peeling
