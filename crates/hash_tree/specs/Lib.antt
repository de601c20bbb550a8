-- Tree   what a LEAF and a NODE of a hash tree hash
pub mod Tree
