-- The inverse of the first columns of a base matrix, what it solves, and which base matrices are legal.
--     Inverting    THE CONTRACTS: Inverts, solved, BaseOk
--     Steps        what the inner functions return
--     Laws         base_exactly, base_is: BaseOk as one test; legal_inverse; base_decoder, solve_base: the inverse decodes base blocks
pub mod Inverting
pub mod Steps
pub mod Laws
