-- Paths of hash trees as bytes.
--     Climbing   the pieces of a path; what a path makes of a node
--     Same       a test of equal bytes, exact
--     Word       the word of four bytes
pub mod Climbing
pub mod Same
pub mod Word
