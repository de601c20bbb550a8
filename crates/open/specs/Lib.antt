-- Writing an opening.
--     Writing        the job: judge_writing, Wrote
--     WritingLaws    writing_exactly: WHAT IS KNOWN WHERE NOTHING IS REFUSED, and that nothing is refused then; writing-number: which numbers refuse
pub mod Writing
pub mod WritingLaws
