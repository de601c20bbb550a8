-- Lemmas of drawing lines.
--     Loose       one line from a loose word
--     Straight    lines from the inverses
pub mod Loose
pub mod Straight
