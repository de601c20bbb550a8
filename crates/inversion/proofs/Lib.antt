-- Lemmas of the inversion's proofs.
--     ChainProducts    products in chains, and what a list holds in a range of places
--     WayBack          the way back from the products to their factors
--     Ends             the inverses of a few words from one
pub mod ChainProducts
pub mod WayBack
pub mod Ends
