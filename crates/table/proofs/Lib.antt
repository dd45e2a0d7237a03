-- The laws of tables in code.
pub mod ShapeLaws
pub mod LoopLaws
pub mod RowShapeLaws
pub mod TallyLaws
pub mod DepthLaws
