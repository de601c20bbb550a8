-- The pairs a + b i with i i = -1 over a field in which -1 is no square; a code over that field as a code over the pairs, and its openings.
--     Pair                THE DEFINITIONS: Pair, its operations, real, NoRoot; extend, a code taken into a larger field
--     Square              square_field: the pairs are a field
--     Root                no_root₁: modulo 2147483647 -1 is no square; E₁, the pairs over it
--     Linear              encode_linear, fold_linear: what a linear map does to codewords and folds
--     Homomorphism        THE DEFINITION of a homomorphism of fields; line_image, encode_image, fold_image
--     Polynomials         poly_image, h_image, final_image, final_sum_image
--     Openings, Verdicts  opening_image; checks_image, verdict_image
--     Extend              encode_re, encode_im, encode_real, legal_extend; fold_re, fold_im, fold_real
--     Real                with all imaginary halves zero: poly_real, opening_real, checks_real, verdict_real
pub mod Pair
pub mod Square
pub mod Root
pub mod Linear
pub mod Homomorphism
pub mod Polynomials
pub mod Openings
pub mod Verdicts
pub mod Extend
pub mod Real
