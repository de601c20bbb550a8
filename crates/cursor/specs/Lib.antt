-- Numbers one after another.
--     Walk        WHAT READING AND JUDGING THEM GIVES, and which numbers stand there
--     Numerals    WHICH BYTES ARE WRITTEN, and where they stand in a file
--     Shown       what the answer says, and that this determines it
--     Laws        one number, walks one after another, and what a walk that is done says
--     Spelt       numbers are read exactly where their numerals stand; what is written is read back, and no other list has its bytes
pub mod Walk
pub mod Numerals
pub mod Shown
pub mod Laws
pub mod Spelt
