-- Turns   a schedule that is filled word by word
pub mod Turns
