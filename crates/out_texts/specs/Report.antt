-- The report of a store: a line for each series.
use Rattle.std.specs.Prelude.{List, ◌++◌, ℕ, codes, decimal, flat_map}
use Rattle.delta_book.specs.declared.totals.SeriesTotals.{SeriesTotals}
use Rattle.out_texts.specs.Rows.{labeled_row}
use Rattle.out_texts.specs.SeriesNames.{series_name, kind_text}

-- what identifies the series' line: its name and kind; and its owner and its frontier
unfoldable pub series_head : SeriesTotals → List ℕ
series_head t =
    codes "series " ++ series_name t.series ++ codes " " ++ kind_text t.series.kind
    ++ codes " owner " ++ t.owner ++ codes " frontier " ++ decimal t.frontier

-- what was accepted, and what of it was acknowledged and dropped
unfoldable pub ended_rows : SeriesTotals → List ℕ
ended_rows t =
    labeled_row (codes " accepted ") t.accepted
    ++ labeled_row (codes " acknowledged ") t.acknowledged
    ++ labeled_row (codes " dropped ") t.dropped

-- what is in flight, stored and quarantined
unfoldable pub kept_rows : SeriesTotals → List ℕ
kept_rows t =
    labeled_row (codes " in-flight ") t.in_flight ++ labeled_row (codes " stored ") t.stored
    ++ labeled_row (codes " quarantined ") t.quarantined

-- a series' line
unfoldable pub series_line : SeriesTotals → List ℕ
series_line t = series_head t ++ ended_rows t ++ kept_rows t ++ codes "\n"

-- a line for each series, and a line `end`
unfoldable pub report_text : List SeriesTotals → List ℕ
report_text rows = flat_map series_line rows ++ codes "end\n"
