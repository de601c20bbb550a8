-- Lemmas of the parts of a step.
--     Copying      a base block in front of an array
--     Spreading    the codeword of the right half, written behind the message
--     OneWord      one word a base message: the step of `halves_step`
pub mod Copying
pub mod Spreading
pub mod OneWord
