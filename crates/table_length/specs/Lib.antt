-- The lengths of tables.
--     Depth       the lengths that a table may have, and its depth
--     DepthLaws   such a length is 2 to its depth; table_exactly: which lengths these are for k words a base message
pub mod Depth
pub mod DepthLaws
