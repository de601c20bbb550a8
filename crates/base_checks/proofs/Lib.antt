-- Lemmas of the proofs about the base checks and the final check.
--     Products      v times a column, term by term; what each base check compares
--     FinalCheck    the final check, by the polynomial of v and eq
pub mod Products
pub mod FinalCheck
