-- The theorems on the definitions of specs/ whose must-fail edits change those.
--     NamedRows        rows_named: WHICH PLACE 4, 5 and 6 name; singular_named: of more rows than one 5 names the index 0
pub mod NamedRows
