-- A table read row by row. Only functions inside the desk cite these; no public statement rests on them.
pub mod Passed
pub mod ByRow
pub mod Heads
pub mod Children
pub mod Fields
pub mod Accepted
