-- Determinants of square matrices of any size: over a field a matrix has an inverse exactly when its determinant is not 0.
--     Inverse         THE DEFINITIONS of the product of matrices, the identity, an inverse, a singular matrix
--     Determinant     THE DEFINITIONS of the determinant, the adjugate, and the adjugate divided by the determinant
--     Products        the product is associative, the identity is neutral; solved: m A = b exactly when m = b M
--     Places          lists without one of their places, tables of entries
--     Wedge           alternating forms: a vector times a form; a vector twice gives 0
--     Image           the image of a form under a matrix: the product of the rows of A M
--     Expansion       the determinant is the coefficient of all columns in the product of the rows
--     Multiplicative  det_product: det(A M) = det(A) det(M); det_identity
--     Adjugate        product_adjugate: A adj(A) = det(A) I
--     Exactly         from_right, from_left, invertible, unique, singular_exactly, invertible_exactly
--     Sizes           the determinants and adjugates of 1, 2 and 4 rows, written out
pub mod Inverse
pub mod Determinant
pub mod Products
pub mod Places
pub mod Wedge
pub mod Image
pub mod Expansion
pub mod Multiplicative
pub mod Adjugate
pub mod Exactly
pub mod Sizes
