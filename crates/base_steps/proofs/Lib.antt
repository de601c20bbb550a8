-- Laws that belong to no one function.
--     RowTakes     a challenge is taken
--     RowPlaces    where a block begins; blocks and v in an opening
pub mod RowPlaces
pub mod RowTakes
