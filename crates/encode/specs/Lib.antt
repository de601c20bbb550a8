-- The job of encoding.
--     Encoding        judge_encoding, Encoded: THE ANSWER AND THE RESULT, for every input
--     EncodingLaws    encodes: a message that is not refused may be encoded; encode_sized, encode_flagged: what the flags of a call promise
pub mod Encoding
pub mod EncodingLaws
