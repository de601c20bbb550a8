-- What the proofs of the functions share.
--     Finding   the inner function of the job, and the job
pub mod Finding
