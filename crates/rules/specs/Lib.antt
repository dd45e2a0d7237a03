-- Document 01 with Figures 1 to 13, a file for each subject.
-- Rows, and the order of refusals: checks 1 to 4
pub mod Places
pub mod Rows
pub mod Tree
-- Names, labels, indexes: checks 5 to 8
pub mod Scope
pub mod Sites
pub mod Names
pub mod Types
pub mod Labels
pub mod Counts
-- Gates, and from run to circuit
pub mod Sorts
pub mod Gates
pub mod Run
-- The meaning: a circuit read plainly, the statements read directly, shares
pub mod Plain
pub mod Direct
pub mod Accesses
pub mod Shares
-- Text
pub mod Text
-- What each operation answers and leaves, its refusals by cases, and the paper's cases
pub mod Answers
pub mod Refusals
pub mod Ascii
pub mod Cases
