-- All checks over base messages of several words.
--     Steps    what they are lent
--     Laws     row_sizes, rows_input: what the tests of a job say makes what they are lent
pub mod Steps
pub mod Laws
