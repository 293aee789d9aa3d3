-- Past rows add up: what is past after a close is what was past before, and what came to it in the
-- round.
use Rattle.std.proofs.Common.{◌≡◌, ℕ, Bool, true, false, List, [], ◌∷◌, ◌++◌, map, refl, ap, sym}
use Rattle.std.proofs.Common.{◌∙◌}
use Rattle.std.specs.List.{list_any, filter}
use Rattle.std.proofs.lemmas.Bool.{or_parts}
use Rattle.series_id.specs.Identity.{Identity, row_length}
use Rattle.series_id.specs.Order.{same_series}
use Rattle.series_id.proofs.Order.{same_series-exact}
use Rattle.metric_events.specs.Rows.{add_rows, zeros}
use Rattle.metric_events.specs.declared.opened_series.OpenedSeries.{OpenedSeries}
use Rattle.metric_events.specs.declared.accepted.Accepted.{Accepted}
use Rattle.metric_events.specs.declared.place.Place.{Place}
use Rattle.metric_events.specs.History.{History, opening}
use Rattle.metric_events.specs.Points.{points, mark, unmarked, is_among, is_acknowledged}
use Rattle.metric_events.specs.Points.{is_dropped}
use Rattle.metric_events.specs.Running.{held_senders}
use Rattle.metric_events.specs.Series.{is_of, row_sum, series_in_order}
use Rattle.metric_events.specs.Legal.{IsLegal}
use Rattle.metric_events.specs.Standing.{stands, sum_where, series_standing}
use Rattle.metric_events.specs.Close.{past, handed_on, PastAddsUp}
use Rattle.metric_events.proofs.Identities.{same_series-turned}
use Rattle.metric_events.proofs.Lists.{any_none, filter_none}
use Rattle.metric_events.proofs.Marks.{marked}
use Rattle.metric_events.proofs.SeriesOnce.{among_in_order}
use Rattle.metric_events.proofs.Sums.{twice_zeros}

-- a row of the past that is handed on: that of the round is added to that of before
abbrev Adds : (OpenedSeries → List ℕ) → (Place → Bool) → List OpenedSeries → List Accepted
    → List (List ℕ) → Type 0
Adds row test before qs held = (x : Identity)
    → row (handed_on before (series_standing qs held x))
    ≡ add_rows (sum_where test x qs) (past row x before)

abbrev pub handed : List OpenedSeries → List Accepted → List (List ℕ) → List Identity
    → List OpenedSeries
handed before qs held xs = map (handed_on before) (map (series_standing qs held) xs)

-- a series that is handed on
past_there : (row : OpenedSeries → List ℕ) (test : Place → Bool) (before : List OpenedSeries)
    (qs : List Accepted) (held : List (List ℕ)) → Adds row test before qs held
    → (x : Identity) (xs : List Identity) → is_among x xs ≡ true
    → past row x (handed before qs held xs) ≡ add_rows (sum_where test x qs) (past row x before)
past_there row test before qs held k x [] h = absurd (let q : false ≡ true = h in cc)
past_there row test before qs held k x (y ∷ ys) h =
    both (same_series y x) refl (past_there row test before qs held k x ys)
  where
    both : (v : Bool) → same_series y x ≡ v
        → (is_among x ys ≡ true → past row x (handed before qs held ys)
        ≡ add_rows (sum_where test x qs) (past row x before))
        → past row x (handed before qs held (y ∷ ys))
        ≡ add_rows (sum_where test x qs) (past row x before)
    both true e r = rw e (k y
        ∙ ap (λ z. add_rows (sum_where test z qs) (past row z before)) (same_series-exact y x e))
    both false e r =
        let t : same_series x y ≡ false = same_series-turned x y ∙ e in
        let n : is_among x ys ≡ true = rw t at h in
        rw e (r n)

-- a series that is not handed on has zeros
past_gone : (row : OpenedSeries → List ℕ) (before : List OpenedSeries) (qs : List Accepted)
    (held : List (List ℕ)) (x : Identity) (xs : List Identity) → is_among x xs ≡ false
    → past row x (handed before qs held xs) ≡ zeros (row_length x.kind)
past_gone row before qs held x [] h = refl
past_gone row before qs held x (y ∷ ys) h =
    let p = or_parts (same_series x y) (is_among x ys) h in
    let t : same_series y x ≡ false = same_series-turned y x ∙ p.0 in
    rw t (past_gone row before qs held x ys p.1)

-- and so has one that was not handed on before
past_none : (row : OpenedSeries → List ℕ) (x : Identity) (ss : List OpenedSeries)
    (rest : List Accepted) → list_any (is_of x) (map mark ss ++ rest) ≡ false
    → past row x ss ≡ zeros (row_length x.kind)
past_none row x [] rest h = refl
past_none row x (s ∷ ss) rest h =
    let p = or_parts (same_series s.series x) (list_any (is_of x) (map mark ss ++ rest)) h in
    rw p.0 (past_none row x ss rest p.1)

none_there : (test : Place → Bool) (x : Identity) (qs : List Accepted)
    → list_any (is_of x) qs ≡ false → sum_where test x qs ≡ zeros (row_length x.kind)
none_there test x qs h = ap (λ zs. row_sum (row_length x.kind) (filter (stands test) zs))
    (filter_none (is_of x) qs (any_none (is_of x) qs h))

adds : (E : History) → IsLegal E → (row : OpenedSeries → List ℕ) (test : Place → Bool)
    → Adds row test (opening E).series (points E) (held_senders E)
    → (x : Identity) → past row x (handed (opening E).series (points E) (held_senders E)
    (series_in_order (points E)))
    ≡ add_rows (sum_where test x (points E)) (past row x (opening E).series)
adds E l row test k x = both (list_any (is_of x) (points E)) refl
  where
    both : (v : Bool) → list_any (is_of x) (points E) ≡ v
        → past row x (handed (opening E).series (points E) (held_senders E)
        (series_in_order (points E)))
        ≡ add_rows (sum_where test x (points E)) (past row x (opening E).series)
    both true e = past_there row test (opening E).series (points E) (held_senders E) k x
        (series_in_order (points E)) (among_in_order x (points E) ∙ e)
    both false e =
        let before : past row x (opening E).series ≡ zeros (row_length x.kind) =
        past_none row x (opening E).series (unmarked E)
        (sym (ap (list_any (is_of x)) (marked E l)) ∙ e) in
        past_gone row (opening E).series (points E) (held_senders E) x (series_in_order (points E))
        (among_in_order x (points E) ∙ e)
        ∙ sym (rw (none_there test x (points E) e, before) (twice_zeros (row_length x.kind)))

pub past_adds_up : (E : History) (x : Identity) → IsLegal E → PastAddsUp E x
past_adds_up E x l = record {
  acknowledged = adds E l (λ o. o.acknowledged) is_acknowledged (λ y. refl) x;
  dropped = adds E l (λ o. o.dropped) is_dropped (λ y. refl) x;
}
