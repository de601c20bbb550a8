-- The fold checks, over any code.
--     Steps       what they are lent, and which places queries may have
--     WalkLaws    where a query goes on, and the first failure of a query and of all, turn by turn
pub mod Steps
pub mod WalkLaws
