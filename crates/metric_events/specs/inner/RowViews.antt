-- The words of a row.
use Rattle.std.specs.Prelude.{ℕ, List}
use Rattle.metric_events.specs.declared.row.Words.{Words}
use Rattle.metric_events.specs.declared.row.Words.TheVariants.{Three, Listed}

-- in place or on the heap
abbrev pub words_of : Words → List ℕ
words_of (Three words) = words
words_of (Listed words) = words.items
