-- The laws of the definitions, and the theorems. A reader starts at Theorems; what the others are for:
-- the order of refusals, and each operation's refusals by cases
pub mod Basics
pub mod Places
pub mod Sites
pub mod Ladders
pub mod Refusals
-- the labels are the smallest set
pub mod Least
pub mod Labels
-- what the checks say of a program, part by part
pub mod Formed
pub mod InputSorts
pub mod Fine
pub mod Checked
pub mod Sited
-- the run agrees with the direct reading, and makes gates that keep the rules
pub mod Loops
pub mod Making
pub mod Acts
pub mod Expressions
pub mod Cells
pub mod Statements
pub mod Accesses
-- circuits as words; and what follows when a table passes checks 1 and 2, when it passes 1 to 8, and when it is accepted
pub mod Circuits
pub mod Bounds
pub mod Shaped
pub mod Passing
pub mod Accepted
-- shares, and demand 3
pub mod Xor
pub mod Listed
pub mod Kept
pub mod Shares
pub mod Earlier
pub mod Decoded
pub mod Evaluated
-- lent memories, text, and direct reading beside evaluation
pub mod Memories
pub mod Texts
pub mod AsEvaluate
-- the paper's cases
pub mod Cases
pub mod Theorems
