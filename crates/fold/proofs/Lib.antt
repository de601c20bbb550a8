-- Lemmas of the folding job's proofs.
--     Judged      from tests to the outcome, and back
pub mod Judged
