-- What the code's shapes, rows and answers mean in the rules' terms.
pub mod Shapes
pub mod Meaning
pub mod Checks
pub mod Uses
pub mod Depths
