-- The first words of the cells' acknowledged rows are those of the standing.
use Rattle.std.proofs.Common.{◌≡◌, ℕ, ◌+◌, List, [], ◌∷◌, map, refl, ap, ◌∙◌}
use Rattle.std.specs.Prelude.{slice_index}
use Rattle.metric_events.specs.Series.{of_series}
use Rattle.metric_events.specs.Standing.{series_standing, all_series}
use Rattle.metric_events.specs.declared.accepted.Accepted.{Accepted}
use Rattle.series_cell.specs.Cells.{CellView}
use Rattle.series_cell.proofs.Reading.{tells}
use Rattle.delta_book.specs.Tables.{AreCells, AllStand, id_of}
use Rattle.delta_book.specs.Totals.{first_words, acknowledged_points}

added_up : (cs : List CellView) (qs : List Accepted) (held : List (List ℕ)) → AllStand cs qs
    → first_words cs ≡ acknowledged_points (map (series_standing qs held) (map id_of cs))
added_up [] qs held h = refl
added_up (c ∷ cs) qs held h =
    ap (λ row. slice_index row 0 + first_words cs) (tells c (of_series c.id qs) h.0).acknowledged
    ∙ ap (λ n. slice_index (series_standing qs held c.id).acknowledged 0 + n)
    (added_up cs qs held h.1)

pub counted : (cs : List CellView) (qs : List Accepted) (held : List (List ℕ)) → AreCells cs qs
    → first_words cs ≡ acknowledged_points (all_series qs held)
counted cs qs held h = added_up cs qs held h.stand
    ∙ ap (λ xs. acknowledged_points (map (series_standing qs held) xs)) h.ids
