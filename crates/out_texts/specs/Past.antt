-- The totals of earlier rounds: a line for each series.
use Rattle.std.specs.Prelude.{List, ◌++◌, ℕ, codes, flat_map}
use Rattle.delta_book.specs.PastRows.{PastRow}
use Rattle.out_texts.specs.Rows.{labeled_row}
use Rattle.out_texts.specs.SeriesNames.{series_name, kind_text}

-- what identifies the series' line: its name and kind
unfoldable pub past_head : PastRow → List ℕ
past_head p = codes "past " ++ series_name p.series ++ codes " " ++ kind_text p.series.kind

-- what was acknowledged, and what was dropped
unfoldable pub past_rows : PastRow → List ℕ
past_rows p =
    labeled_row (codes " acknowledged ") p.acknowledged ++ labeled_row (codes " dropped ") p.dropped

-- a series' line
unfoldable pub past_line : PastRow → List ℕ
past_line p = past_head p ++ past_rows p ++ codes "\n"

-- a line for each series, and a line `end`
unfoldable pub past_text : List PastRow → List ℕ
past_text rows = flat_map past_line rows ++ codes "end\n"
