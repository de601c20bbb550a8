-- The job of reading a word as a clearance.
--     Reading         what it gives
pub mod Reading
