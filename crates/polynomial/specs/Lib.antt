-- The value of a polynomial, and eq.
--     Lent              what an evaluation is lent
--     LentLaws          the same by its halves
--     Monomials         words that are monomials at a point
--     MonomialLaws      monomials by one variable more
--     Eq                factor: eq of one variable
pub mod Lent
pub mod LentLaws
pub mod Monomials
pub mod MonomialLaws
pub mod Eq
