-- Base blocks of more than one word: a base matrix of k rows, and messages of k 2^d words.
--     Base            THE DEFINITIONS: base_messages, base_blocks
--     Lifted          encoding in two steps, over any base matrix: lift_base; spread_blocks: one base row
--     Decoders        the first k columns have an inverse: inverse_decoder, unique_inverse, codeword-inverse?; singular_first
--     Low             the final check with low variables: final_sum_low
pub mod Base
pub mod Lifted
pub mod Decoders
pub mod Low
