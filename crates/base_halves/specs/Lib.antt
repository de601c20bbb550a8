-- A block compared with the codeword, of k base rows, of a message in front of the work buffer.
--     Comparing    the contract: CompareInput, Compared
--     Steps        what the steps are lent, and what they leave
pub mod Comparing
pub mod Steps
