-- What the proof of the function cites.
--     Readings   the ways that reading a word ends
pub mod Readings
