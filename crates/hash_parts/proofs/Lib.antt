-- Loops   one query after the other, and one sibling of two
pub mod Loops
