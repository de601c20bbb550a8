-- The query list: what of it is refused.
--     Distinct       THE DEFINITIONS: Repeated, some place stands twice; Distinct, none does; the test distinct
--     DistinctLaws   the test says it: distinct_exactly, repeated_exactly
--     Few            distinct_few: there are no more distinct words below n than n
--     Queries        THE DEFINITIONS: max_queries, queries_ok, judge_queries
--     QueryLaws      queries_legal, legal_exactly, seven_first, eleven_exactly, queries_number; too_many
pub mod Distinct
pub mod DistinctLaws
pub mod Few
pub mod Queries
pub mod QueryLaws
