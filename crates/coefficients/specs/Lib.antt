-- The job that turns a table of clearances into coefficients.
--     Job         what it answers and leaves
--     Judged      what holds where it is done, and that it is done where it holds
--     Laws        message_found, message_unique: a table has exactly one message
pub mod Job
pub mod Judged
pub mod Laws
