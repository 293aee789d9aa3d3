-- A round's close leaves a history that stands as the one that was closed.
use Rattle.std.proofs.Common.{◌≡◌, ◌+◌, Bool, true, false, List, [], ◌∷◌, map, refl, ap, sym, ◌∙◌}
use Rattle.std.proofs.Common.{inl, inr, subst}
use Rattle.std.specs.List.{list_any, list_all, filter}
use Rattle.std.proofs.lemmas.Bool.{or_cases}
use Rattle.series_id.specs.Identity.{Identity, row_length}
use Rattle.series_id.specs.Order.{same_series}
use Rattle.series_id.proofs.Order.{same_series-exact}
use Rattle.metric_events.specs.Rows.{add_rows}
use Rattle.metric_events.specs.Opening.{IsOpening}
use Rattle.metric_events.specs.History.{History, Opened, opening}
use Rattle.metric_events.specs.Points.{points, is_home, is_among, opened_points}
use Rattle.metric_events.specs.Running.{held_senders}
use Rattle.metric_events.specs.Series.{is_of, of_series, hull, row_sum, owner, frontier}
use Rattle.metric_events.specs.Series.{series_in_order}
use Rattle.metric_events.specs.Legal.{IsLegal}
use Rattle.metric_events.specs.Standing.{stands, SeriesStanding, series_standing, sum_where}
use Rattle.metric_events.specs.Close.{close, renewed}
use Rattle.metric_events.specs.Congruence.{StandAlike, IsCalm}
use Rattle.metric_events.specs.declared.accepted.Accepted.{Accepted}
use Rattle.metric_events.proofs.Lists.{any_none, filter_none}
use Rattle.metric_events.proofs.Moves.{rides}
use Rattle.metric_events.proofs.Invariants.{all_ride}
use Rattle.metric_events.proofs.SeriesOnce.{among_in_order}
use Rattle.metric_events.proofs.Bare.{none_owner, none_frontier}
use Rattle.metric_events.proofs.Closing.{closed_is, home_row, ascend_map}
use Rattle.metric_events.proofs.Renewing.{opened_in_order, each_renewed, alone}

-- two lists that are equal, at one element

at_one : (x : Identity) (f g : Identity → SeriesStanding) (k : SeriesStanding → SeriesStanding)
    (xs : List Identity) → map f xs ≡ map k (map g xs) → is_among x xs ≡ true → f x ≡ k (g x)
at_one x f g k [] e h = absurd (let q : false ≡ true = h in cc)
at_one x f g k (y ∷ ys) e h = elim (or_cases (same_series x y) (is_among x ys) h) [
  | inl m ↦ subst (λ z. f z ≡ k (g z)) (sym (same_series-exact x y m))
      (first (f y) (k (g y)) (map f ys) (map k (map g ys)) e)
  | inr m ↦ at_one x f g k ys (others (f y) (k (g y)) (map f ys) (map k (map g ys)) e) m
]
  where
    first : (a b : SeriesStanding) (ss ts : List SeriesStanding) → (a ∷ ss) ≡ (b ∷ ts) → a ≡ b
    first a b ss ts e = cc

    others : (a b : SeriesStanding) (ss ts : List SeriesStanding) → (a ∷ ss) ≡ (b ∷ ts) → ss ≡ ts
    others a b ss ts e = cc

-- of a series without a point
nothing_of_it : (x : Identity) (qs : List Accepted) → list_any (is_of x) qs ≡ false
    → filter (stands is_home) (of_series x qs) ≡ []
nothing_of_it x qs h =
    ap (filter (stands is_home)) (filter_none (is_of x) qs (any_none (is_of x) qs h))

-- what a series' standing after the close says of the one before
record Renewed (x : Identity) (qs rs : List Accepted) : Type 0 where
  owner : owner x rs ≡ owner x qs
  frontier : frontier x rs ≡ frontier x qs
  sum : sum_where is_home x rs ≡ sum_where is_home x qs
  span : hull (filter (stands is_home) (of_series x rs))
      ≡ hull (filter (stands is_home) (of_series x qs))

one_renewed : (E : History) → IsLegal E → IsCalm E → (x : Identity)
    → Renewed x (points E) (opened_points (close E))
one_renewed E l c x = both (list_any (is_of x) (points E)) refl
  where
    ok : IsOpening (close E)
    ok = closed_is E l

    order : series_in_order (opened_points (close E)) ≡ series_in_order (points E)
    order = opened_in_order (close E) ok.ordered
        ∙ ascend_map (opening E).series (points E) (held_senders E) (series_in_order (points E))

    known : list_any (is_of x) (opened_points (close E)) ≡ list_any (is_of x) (points E)
    known = sym (among_in_order x (opened_points (close E)))
        ∙ (ap (is_among x) order ∙ among_in_order x (points E))

    each : map (series_standing (opened_points (close E)) (held_senders E))
        (series_in_order (points E)) ≡ map renewed
        (map (series_standing (points E) (held_senders E)) (series_in_order (points E)))
    each = each_renewed (close E) ((opening E).round + 1) (opening E).series (held_senders E)
        (points E) (subst (λ ls. list_all (rides ls) (points E) ≡ true) c.live (all_ride E))
        (series_in_order (points E)) (alone (close E).series ok.ordered) ok.opened

    both : (v : Bool) → list_any (is_of x) (points E) ≡ v
        → Renewed x (points E) (opened_points (close E))
    both true e =
        let one : series_standing (opened_points (close E)) (held_senders E) x
        ≡ renewed (series_standing (points E) (held_senders E) x) =
        at_one x (series_standing (opened_points (close E)) (held_senders E))
        (series_standing (points E) (held_senders E)) renewed
        (series_in_order (points E)) each (among_in_order x (points E) ∙ e) in
        record {
          owner = ap (λ (s : SeriesStanding). s.owner) one;
          frontier = ap (λ (s : SeriesStanding). s.frontier) one;
          sum = sym (home_row x (opened_points (close E)) (held_senders E))
              ∙ (ap (λ (s : SeriesStanding). add_rows s.stored s.quarantined) one
              ∙ home_row x (points E) (held_senders E));
          span = ap (λ (s : SeriesStanding). s.home_span) one;
        }
    both false e = record {
      owner = none_owner x (opened_points (close E)) (known ∙ e) ∙ sym (none_owner x (points E) e);
      frontier = none_frontier x (opened_points (close E)) (known ∙ e)
          ∙ sym (none_frontier x (points E) e);
      sum = ap (row_sum (row_length x.kind))
          (nothing_of_it x (opened_points (close E)) (known ∙ e)
          ∙ sym (nothing_of_it x (points E) e));
      span = ap hull (nothing_of_it x (opened_points (close E)) (known ∙ e)
          ∙ sym (nothing_of_it x (points E) e));
    }

pub closed_alike : (E : History) → IsLegal E → IsCalm E → StandAlike E (Opened (close E))
closed_alike E l c = record {
  owners = λ x. (one_renewed E l c x).owner;
  frontiers = λ x. (one_renewed E l c x).frontier;
  sums = λ x. (one_renewed E l c x).sum;
  spans = λ x. (one_renewed E l c x).span;
  held = λ s. refl;
}

-- to stand alike is an equivalence

pub alike_itself : (E : History) → StandAlike E E
alike_itself E = record {
  owners = λ x. refl;
  frontiers = λ x. refl;
  sums = λ x. refl;
  spans =
      λ x. refl;
  held = λ s. refl;
}

pub alike_back : (E F : History) → StandAlike E F → StandAlike F E
alike_back E F h = record {
  owners = λ x. sym (h.owners x);
  frontiers =
      λ x. sym (h.frontiers x);
  sums = λ x. sym (h.sums x);
  spans = λ x. sym (h.spans x);
  held =
      λ s. sym (h.held s);
}

pub alike_through : (E F G : History) → StandAlike E F → StandAlike F G → StandAlike E G
alike_through E F G h k = record {
  owners = λ x. k.owners x ∙ h.owners x;
  frontiers =
      λ x. k.frontiers x ∙ h.frontiers x;
  sums = λ x. k.sums x ∙ h.sums x;
  spans =
      λ x. k.spans x ∙ h.spans x;
  held = λ s. k.held s ∙ h.held s;
}

-- where two that stand alike are closed, or one of them, they stand alike
pub both_closed : (E F : History) → IsLegal E → IsLegal F → IsCalm E → IsCalm F → StandAlike E F
    → StandAlike (Opened (close E)) (Opened (close F))
both_closed E F l m c d h = alike_through (Opened (close E)) E (Opened (close F))
    (alike_back E (Opened (close E)) (closed_alike E l c))
    (alike_through E F (Opened (close F)) h (closed_alike F m d))
