-- Nodes   the places of nodes, and a node from its children
pub mod Nodes
