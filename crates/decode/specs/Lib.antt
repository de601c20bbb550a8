-- Decoding.
--     Decoding    the job: judge_decoding, Decoded
--     Laws        decodes: what is known where a block may be decoded; determined, exactly, gives, eight: the contract determines answer and buffers, a message is given exactly where the block is a codeword, and 8 exactly where it is none
pub mod Decoding
pub mod Laws
