-- The words of a point after the number of its series.
use Rattle.std.specs.Prelude.{ℕ, ℤ, pos, ◌-ℤ◌, ◌-◌, List, [], ◌∷◌, sum, slice_index}
use Rattle.std.specs.Int.{w64, cast_unsigned}
use Rattle.series_id.specs.declared.kinds.Kind.{Kind}
use Rattle.series_id.specs.declared.kinds.Kind.TheVariants.{Sum, Histogram}
use Rattle.metric_events.specs.DataPoint.{DataPoint}
use Rattle.metric_events.specs.Rows.{buckets_of}

-- the value of a sum's row: what was added less what was subtracted
abbrev pub value_of : List ℕ → ℤ
value_of row = pos (slice_index row 1) -ℤ pos (slice_index row 2)

-- the words of a row: of a sum its value; of a histogram its count, whether it has a sum, that sum,
-- and its buckets
abbrev pub row_words : Kind → List ℕ → List ℕ
row_words (Sum monotonic) row = cast_unsigned w64 (value_of row) ∷ []
row_words (Histogram bounds) row =
    sum (buckets_of row) ∷ (1 - slice_index row 1) ∷ slice_index row 2 ∷ buckets_of row

-- the words of a point: its start, its end, and those of its row
abbrev pub words_of : DataPoint → List ℕ
words_of p = p.span.start ∷ p.span.end ∷ row_words p.series.kind p.row
