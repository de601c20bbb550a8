-- What a verifier answers.
--     Verdicts        numbers: THE NUMBER AND PLACES of each verdict; the same of the definitions' first failure
--     FirstFailure    the first failure of checks made one after another, or in two parts
--     Equality        a test of words as the definitions' test of elements
pub mod Verdicts
pub mod FirstFailure
pub mod Equality
