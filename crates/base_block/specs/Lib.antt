-- One base message times the base matrix.
--     Blocks    block_of: THE BLOCK of a base message; what it is made of
pub mod Blocks
