pub mod Containers
pub mod ValueViews
pub mod RefViews
pub mod StreamViews
pub mod PointViews
pub mod PartViews
