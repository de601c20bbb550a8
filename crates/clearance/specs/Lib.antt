-- Clearances: which residue stands for which.
--     Clearances      the range, which residue is which clearance, and what a clearance means
--     ClearanceLaws   every clearance is one residue, and every residue one clearance
--     MeaningLaws     which clearances are free, in contact, and overlaps
pub mod Clearances
pub mod ClearanceLaws
pub mod MeaningLaws
