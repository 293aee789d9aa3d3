-- What was acknowledged and dropped of one series in earlier rounds.
use Rattle.std.specs.Prelude.{◌≡◌, ℕ, List}
use Rattle.series_id.specs.Identity.{Identity, row_length}
use Rattle.metric_events.specs.Rows.{add_rows, zeros}
use Rattle.metric_events.specs.Opening.{IsOpenedSeries}
use Rattle.metric_events.specs.Close.{past}
use Rattle.metric_events.specs.declared.opening.Opening.{Opening}
use Rattle.metric_events.specs.declared.opened_series.OpenedSeries.{OpenedSeries}

-- the opening has this of the series
pub record HasPast (O : Opening) (x : Identity) (s : OpenedSeries) : Type 0 where
  pub made : IsOpenedSeries O.round s
  pub series : s.series ≡ x
  pub past : (f : OpenedSeries → List ℕ) → past f x O.series ≡ f s

-- the opening has nothing of the series
abbrev pub HasNoPast : Opening → Identity → Type 0
HasNoPast O x = (f : OpenedSeries → List ℕ) → past f x O.series ≡ zeros (row_length x.kind)

-- two rows of a series, each with the words of earlier rounds added
pub record AddsPast (before : List OpenedSeries) (x : Identity)
    (a d all_a all_d : List ℕ) : Type 0 where
  pub acknowledged : all_a ≡ add_rows a (past (λ o. o.acknowledged) x before)
  pub dropped : all_d ≡ add_rows d (past (λ o. o.dropped) x before)
