-- A table that passes its first checks, row by row. A reader starts at ByRows and AcceptedRows.
pub mod Table
pub mod Levels
pub mod Formed
pub mod Heads
pub mod Parts
pub mod Once
pub mod Bridge
pub mod Parents
pub mod Size
pub mod ByRows
pub mod AcceptedRows
