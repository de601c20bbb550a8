-- The foldable code with powers of roots of unity as diagonals, over any field.
--     RootCode            THE DEFINITIONS: pow, Order, powers; reverse_bits, reversed, value; root_code, Roots, Table
--     Roots               power_past, opposite; table_order: entry k of a table has the order 2^k
--     BitReversal         bit_reverse: bit j of the reversed number is bit d - 1 - j of the number
--     ReedSolomon         legal_roots; values, values_table: a codeword is the list of values of one polynomial
--     SecondField         modulo 2013265921: table₂, 28 roots, of the orders 2^0 to 2^27; order₂, values₂
pub mod RootCode
pub mod Roots
pub mod BitReversal
pub mod ReedSolomon
pub mod SecondField
