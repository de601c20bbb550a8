-- The theorems on the definitions of specs/. An edit of those in must-fail/ is refused by one of these.
--     Every               every list of d words below p is listed, once: every_challenge_words, once_challenge_words, length_challenge_words; and of elements
--     Words               challenges_words: the lists of elements are those of words, each word for its element
--     Lucky               one_challenge, lucky_none; lucky_among: challenges from a part of the field
--     LuckyBound          lucky_bound: challenges from the whole field
--     Tried               tried: over a finite field it is decided whether a block is a codeword
pub mod Every
pub mod Words
pub mod Lucky
pub mod LuckyBound
pub mod Tried
