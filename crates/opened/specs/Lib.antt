-- What is refused of all that verifying is lent, but for the queries.
--     Opened        judge_opened
--     OpenedLaws    opened_lengths_lem, claim_low: what the tests say
pub mod Opened
pub mod OpenedLaws
