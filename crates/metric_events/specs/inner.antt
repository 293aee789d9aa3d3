pub mod RowViews
pub mod Equal
