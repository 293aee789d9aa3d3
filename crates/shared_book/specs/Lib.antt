pub use Rattle.delta_book.specs.Journal
pub use Rattle.delta_book.specs.Refusals
pub use Rattle.delta_book.specs.Flushes
pub use Rattle.delta_book.specs.Totals
pub mod Receipts
pub mod Moments
pub mod Audits
pub mod inner
