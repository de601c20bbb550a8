-- Hash trees over any hash of two children.
--     Tree                THE DEFINITIONS: node, root, path, climb
--     TreeLaws            climb_path: the path of a leaf leads to the root
pub mod Tree
pub mod TreeLaws
