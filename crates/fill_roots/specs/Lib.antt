-- The job of filling by rule.
--     Accepted    lengths_rule, words_rule, legal_filled: what is filled is refused by no job
--     Filling     THE JOB: powers of two, judge_filling, RootsFilled
--     FillingLaws two_power, rates_exactly: 12; thirteen_due: 13 before 3, three_due: 3 before 12; done_exactly; filled_legal, filled_values: what a call that is done has left
pub mod Accepted
pub mod Filling
pub mod FillingLaws
