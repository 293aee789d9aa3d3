pub use Rattle.bucket_lanes.specs.ByPlace
pub use Rattle.metric_events.specs.Points
pub use Rattle.metric_events.specs.Series
pub mod Spans
pub mod Cells
pub mod Reading
pub mod inner
