-- Products for the benchmark.
--     Products        what the two exported functions answer and leave
--     ProductLaws     what a round needs and leaves
pub mod Products
pub mod ProductLaws
