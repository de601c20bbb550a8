-- The sums.
--     Steps    what their steps are lent, and what the sums leave
pub mod Steps
