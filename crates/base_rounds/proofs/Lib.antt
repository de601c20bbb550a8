-- Laws that belong to no one function.
--     Agreement    an opening as it is written part by part
--     OneRound     what the block of a round is lent, and what it leaves
--     Target       what an opening holds at the places of a round, of a block and of v
--     AllRounds    what is known before each round, and after the last
pub mod Agreement
pub mod OneRound
pub mod Target
pub mod AllRounds
