-- Lemmas of the proofs about rows.
--     Writing        lists that loops write word by word and row by row
--     Scaling        products that are divided
--     RowProducts    the products before a place
--     RowTurns       the turns of the loops over rows
--     Between        from the way up to the way down
pub mod Writing
pub mod Scaling
pub mod RowProducts
pub mod RowTurns
pub mod Between
