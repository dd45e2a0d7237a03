-- What the code of checks 5 to 8 says to itself, and what checks 1 to 8 promise.
-- check 5
pub mod Naming
pub mod Declares
pub mod Stack
pub mod Sweep
pub mod Walk
-- checks 6, 7 and 8
pub mod Notes
pub mod Types
pub mod Labels
pub mod Counts
-- all eight checks
pub mod Promise
