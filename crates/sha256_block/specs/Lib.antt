-- SHA-256 of one block, as FIPS 180-4 has it, over lists of bytes.
--     Constants         the constants of rounds (4.2.2) and the initial hash value (5.3.3)
--     Compression       THE MESSAGE SCHEDULE, A ROUND, THE NEXT HASH VALUE (6.2.2)
--     CompressionLaws   the schedule's recurrence word by word; rounds one by one
pub mod Constants
pub mod Compression
pub mod CompressionLaws
