-- Words   words of 32 bits as FIPS 180-4 has them: sums, shifts, rotations and the six functions (2.2.2, 3.2, 4.1.2); the word of four bytes (3.1)
pub mod Words
