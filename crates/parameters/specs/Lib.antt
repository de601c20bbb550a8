-- Base row and the diagonals of all levels: the code that they make, and what is asked of their words.
--     Lent             diagonal, lent: THE CODE of a base row and diagonals; codeword; Coding: what is known once nothing is refused
--     LentLaws         where the levels stand
--     Parameters       what is asked of the words of base matrix and diagonals, and what one pass over them finds
--     ParameterLaws    what the tests say where they hold
pub mod Lent
pub mod LentLaws
pub mod Parameters
pub mod ParameterLaws
