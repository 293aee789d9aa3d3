-- The round after rest begins at rest, and knows the series as before.
use Rattle.std.proofs.Common.{◌≡◌, ℕ, true, false, cond, not, List, [], ◌∷◌, ◌++◌, map, refl, ap}
use Rattle.std.proofs.Common.{sym, ◌∙◌, arith, suc, zero}
use Rattle.std.specs.List.{list_all, filter}
use Rattle.std.proofs.lemmas.List.{append-nil}
use Rattle.series_id.specs.Identity.{Identity, row_length}
use Rattle.series_id.specs.Order.{same_series}
use Rattle.metric_events.specs.Rows.{add_rows, zeros}
use Rattle.metric_events.specs.History.{History, Opened, opening, ◌then◌}
use Rattle.metric_events.specs.Points.{points, is_home, mark, carried, carried_of}
use Rattle.metric_events.specs.Running.{held_senders}
use Rattle.metric_events.specs.Series.{is_of, of_series, owner, frontier, hull, row_sum, sum_of}
use Rattle.metric_events.specs.Series.{series_in_order}
use Rattle.metric_events.specs.Standing.{stands, series_standing}
use Rattle.metric_events.specs.Close.{handed_on, close}
use Rattle.metric_events.specs.Legal.{IsLegal}
use Rattle.metric_events.specs.Recovery.{IsAtRest, Remembers, FlushesNothing, not_pending}
use Rattle.metric_events.specs.Recovery.{is_not_home, IsAtMost}
use Rattle.metric_events.specs.declared.opened_series.OpenedSeries.{OpenedSeries}
use Rattle.metric_events.specs.declared.accepted.Accepted.{Accepted}
use Rattle.metric_events.proofs.Lists.{all_filter, filter_none}
use Rattle.metric_events.proofs.Sums.{row_le_zeros}
use Rattle.metric_events.proofs.Behind.{live_then}
use Rattle.metric_events.proofs.Pasts.{handed}
use Rattle.metric_events.proofs.Turns.{rested_law}
use Rattle.metric_events.proofs.Striking.{legal_before}
use Rattle.metric_events.proofs.CongruentClose.{closed_alike}
use Rattle.metric_events.specs.Congruence.{StandAlike}

-- nothing is carried
nothing_carried : (before : List OpenedSeries) (qs : List Accepted) (held : List (List ℕ))
    → list_all (λ a. not (is_home a.place)) qs ≡ true → (xs : List Identity)
    → carried (handed before qs held xs) ≡ []
nothing_carried before qs held h [] = refl
nothing_carried before qs held h (x ∷ xs) =
    let none : filter (stands is_home) (of_series x qs) ≡ [] =
    filter_none (stands is_home) (of_series x qs)
    (all_filter (λ a. not (is_home a.place)) (is_of x) qs h) in
    ap (λ us. carried_of (handed_on before (series_standing qs held x)) (hull us)
    ++ carried (handed before qs held xs)) none
    ∙ nothing_carried before qs held h xs

marks_of : (E : History) → IsAtRest E → points (Opened (close E)) ≡ map mark (close E).series
marks_of E r = ap (λ us. map mark (close E).series ++ us)
    (nothing_carried (opening E).series (points E) (held_senders E) r.home
    (series_in_order (points E))) ∙ append-nil (map mark (close E).series)

marks_landed : (ss : List OpenedSeries) → list_all (λ a. not (is_home a.place)) (map mark ss) ≡ true
marks_landed [] = refl
marks_landed (s ∷ ss) = marks_landed ss

-- sums of marks are no greater than any

zeros_more : (n : ℕ) (zs ys : List ℕ) → IsAtMost zs ys → IsAtMost (add_rows (zeros n) zs) ys
zeros_more zero zs ys h = h
zeros_more (suc n) [] ys h = row_le_zeros (suc n) ys
zeros_more (suc n) (z ∷ zs) [] h = (omega (arith, h.0), zeros_more n zs [] h.1)
zeros_more (suc n) (z ∷ zs) (y ∷ ys) h = (omega (arith, h.0), zeros_more n zs ys h.1)

marks_sum : (x : Identity) (ss : List OpenedSeries) (ys : List ℕ)
    → IsAtMost (sum_of x (map mark ss)) ys
marks_sum x [] ys = row_le_zeros (row_length x.kind) ys
marks_sum x (s ∷ ss) ys = elim (same_series s.series x)
    as (λ v. IsAtMost (row_sum (row_length x.kind)
    (cond v (mark s ∷ of_series x (map mark ss)) (of_series x (map mark ss)))) ys) [
      | true ↦ zeros_more (row_length s.series.kind) (sum_of x (map mark ss)) ys (marks_sum x ss ys)
      | false ↦ marks_sum x ss ys
    ]

pub closed_law : (E R : History) → IsAtRest E → FlushesNothing R → IsLegal (E then R)
    → Remembers (Opened (close E)) (E then R)
    × ((x : Identity)
    → IsAtMost (sum_of x (points (Opened (close E)))) (sum_of x (not_pending (E then R))))
closed_law E R r n l = (
  record {
    live = live_then E R n ∙ r.live;
    rest = record {
      home = ap (list_all is_not_home) (marks_of E r) ∙ marks_landed (close E).series;
      batches = refl;
      live = refl;
      held = r.held;
    };
    owners = λ x. alike.owners x ∙ ap (owner x) (sym same);
    frontiers = λ x. alike.frontiers x ∙ ap (frontier x) (sym same);
  },
  λ x. rw (marks_of E r) (marks_sum x (close E).series (sum_of x (not_pending (E then R)))),
)
  where
    same : not_pending (E then R) ≡ points E
    same = rested_law E R r n l

    alike : StandAlike E (Opened (close E))
    alike = closed_alike E (legal_before R E l) (record { batches = r.batches; live = r.live })
