-- The transform between a table and its coefficients.
--     Passes      it, in place and one pass a variable; that this is the table, or the coefficients
pub mod Passes
