-- The base checks and the final check, over base messages of several words.
--     Steps    base_word, base_at, last_at: WHAT IS COMPARED; what the functions are lent
--     Laws     base_sum: the base word term by term; encode_base; bases_are, last_is: these are the verifier's checks
pub mod Steps
pub mod Laws
