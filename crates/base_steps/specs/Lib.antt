-- The steps of a writer of openings over base messages of several words.
--     RowSteps       what each step is lent, and what it leaves
--     RowStepLaws    what is left of the message after a challenge; h_left: h from what is left
pub mod RowSteps
pub mod RowStepLaws
