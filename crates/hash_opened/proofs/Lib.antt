-- What several proofs cite.
--     Joins    paths through a node from those through its children, and all that is carried
--     Paths    nodes that no path goes through, and the height of a tree
pub mod Joins
pub mod Paths
