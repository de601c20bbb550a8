-- The steps of a writer of openings.
--     Steps        what each step is lent, and what it leaves
--     StepLaws     what is left of the message after a challenge
--     SentLaws     h from what is left of the message
pub mod Steps
pub mod StepLaws
pub mod SentLaws
