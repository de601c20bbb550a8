-- The inverses of T' - T in every c-th place.
--     Inversion        what is lent, and THE INVERSES
--     Scaled           loose words for them
--     Strides          where every c-th place stands
--     InversionLaws    what holds of differences of diagonals that differ, and of lists of words by their places
--     Chains           what the inner loops hold
--     UnitLaws         words of elements with inverses
pub mod Inversion
pub mod Scaled
pub mod Strides
pub mod InversionLaws
pub mod Chains
pub mod UnitLaws
