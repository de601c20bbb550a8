-- A block settled: its message, or 8.
--     Settling    Settled: the answer, and what is left in the result
pub mod Settling
