-- Where the words of an opening stand.
--     LayoutLaws    rounds and blocks lie within the opening
--     BlockLaws     the block of a level: its place, length and words; v
pub mod LayoutLaws
pub mod BlockLaws
