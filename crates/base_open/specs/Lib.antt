-- Writing an opening over base messages of several words.
--     RowWriting      WriteResult: THE VALUE f(z), the opening, and a work buffer of zeros
--     RowWriteLaws    write_input: what is within the limits, at the sizes that they give, may be written
pub mod RowWriting
pub mod RowWriteLaws
