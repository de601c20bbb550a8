-- What the proofs of the functions share.
--     Bits      one set bit and its trailing zeros
pub mod Bits
