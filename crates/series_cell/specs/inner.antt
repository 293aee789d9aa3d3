pub mod CellParts
pub mod Rows
