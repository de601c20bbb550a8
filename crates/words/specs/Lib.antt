-- Tests of lists of words.
--     Scans       the tests
--     ScanLaws    what holds where they do
pub mod Scans
pub mod ScanLaws
