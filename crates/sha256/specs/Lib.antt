-- SHA-256 as FIPS 180-4 has it, over lists of bytes.
--     Padding       THE PADDED MESSAGE (5.1.1)
--     PaddingLaws   the fewest zeros; the padded message bit by bit
--     Hash          the blocks, the hash value after them, THE DIGEST (5.2.1, 6.2.2)
pub mod Padding
pub mod PaddingLaws
pub mod Hash
