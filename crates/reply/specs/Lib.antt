-- What C and Rust are told.
--     Replies        THE DEFINITIONS: the field that a call names, the answers as numbers, and what a call of each job leaves
--     ReplyLaws      decode_call_determined; single results
pub mod Replies
pub mod ReplyLaws
