-- Hash trees over blocks of words.
--     Levels      THE LEAVES AND THE ROOT of a block
--     LevelLaws   path_leads: the path of a leaf leads to the root
pub mod Levels
pub mod LevelLaws
