-- The job of evaluation.
--     Evaluation    judge_evaluating, evaluation
pub mod Evaluation
