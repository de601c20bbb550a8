-- What several proofs cite.
--     Climbs   a climb, one piece after the other
--     Pairs    std's test of equal lists
pub mod Climbs
pub mod Pairs
