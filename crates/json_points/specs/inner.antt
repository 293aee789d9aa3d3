pub mod Nodes
pub mod Plain
pub mod Slots
pub mod RefViews
pub mod MetricViews
pub mod StreamViews
pub mod SumParts
