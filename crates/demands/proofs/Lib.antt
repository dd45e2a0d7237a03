-- The demands, proved.
-- any lent bytes have a call, and its end is settled
pub mod Calls
-- demand 3
pub mod Demand3
