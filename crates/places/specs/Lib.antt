-- Where a test fails first, so that a refusal can name the place.
--     Places         THE DEFINITIONS: First, first_place, place_of, place_of₂; high_place, zero_place, equal_place
--     PlaceLaws      the search finds the first place: first_only, first_none; from the flag of a scan: place_first, place_none, place₂_first, place₂_none
--     Inputs         THE DEFINITIONS: below, judge_words (4), no_zero (5), no_equal (6); what they name: FirstWord, FirstZero, FirstEqual
--     InputLaws      word_named, zero_named, equal_named: each is refused with a place exactly where that is the first
--     FlagLaws       flags first: words_flagged, equal_flagged; one_word
--     Ordered        ordered: the inputs in the code's own record
pub mod Places
pub mod PlaceLaws
pub mod Inputs
pub mod InputLaws
pub mod FlagLaws
pub mod Ordered
