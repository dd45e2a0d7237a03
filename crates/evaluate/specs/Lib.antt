-- What the operation promises; and what the functions inside say to each other.
pub mod Promise
pub mod InputChecks
pub mod Held
