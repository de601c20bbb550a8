-- The job that turns coefficients into a table of clearances.
--     Job         what it answers and leaves
--     Judged      what holds where it is done, and that it is done where it holds
--     Laws        the two table jobs undo each other
pub mod Job
pub mod Judged
pub mod Laws
