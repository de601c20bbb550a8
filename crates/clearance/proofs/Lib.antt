-- What the proofs of the functions share.
--     Signs      clearances as the machine negates and casts them
pub mod Signs
