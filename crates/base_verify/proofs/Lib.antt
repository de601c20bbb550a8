-- Laws that belong to no one function.
--     LastClaim    the final check is that of v as it is read; what the sums leave; what the claims are lent
pub mod LastClaim
