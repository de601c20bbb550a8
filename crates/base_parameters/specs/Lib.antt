-- The parameter record of base blocks of one, two or four words: its limits, the sizes that it gives, and what is judged of base matrix and diagonals.
--     Parameters       judge_rows: THE REFUSALS 1, 2, 13, 3, 4, 5, 6 of a job with a base matrix, in their order
--     ParameterLaws    base_refused: 5 IS DUE EXACTLY WHERE THE FIRST COLUMNS HAVE NO INVERSE; what the tests say where they hold
--     NamedLaws        RowsNamed: WHICH PLACE 4, 5 and 6 name (rows_named and singular_named, in proofs/NamedRows); equal_in_level
--     OneRowBefore     limits, lengths and judging as they were for one base row
--     OneRow           AT k0 = 1 all of these are those of one base row
pub mod Parameters
pub mod ParameterLaws
pub mod NamedLaws
pub mod OneRowBefore
pub mod OneRow
