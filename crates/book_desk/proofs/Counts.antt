-- Lists whose images are one list have one length.
use Rattle.std.proofs.Common.{◌≡◌, List, length, map, sym, ap, ◌∙◌}
use Rattle.std.proofs.lemmas.List.{length-map}
use Rattle.metric_events.specs.Standing.{SeriesStanding}
use Rattle.series_cell.specs.Cells.{CellView}
use Rattle.delta_book.specs.CellTotals.{cell_totals, standing_totals}

pub same_length : (cs : List CellView) (ss : List SeriesStanding)
    → map cell_totals cs ≡ map standing_totals ss → length cs ≡ length ss
same_length cs ss e =
    sym (length-map cs cell_totals) ∙ (ap length e ∙ length-map ss standing_totals)
