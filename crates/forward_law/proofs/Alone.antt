-- A flush of a book that has admitted one batch and nothing else.
use Rattle.std.proofs.Common.{◌≡◌, ℕ, true, false, ◌&&◌, cond, List, [], ◌∷◌, map, take, refl, ap}
use Rattle.std.proofs.Common.{sym, ◌∙◌, subst, arith}
use Rattle.std.specs.List.{filter}
use Rattle.series_id.specs.Identity.{Identity}
use Rattle.metric_events.specs.DataPoint.{DataPoint}
use Rattle.metric_events.specs.History.{History, Start}
use Rattle.metric_events.specs.Opening.{first_opening}
use Rattle.metric_events.specs.Points.{admitted}
use Rattle.metric_events.specs.Series.{is_of, merged, of_series, series_in_order}
use Rattle.metric_events.specs.Choice.{is_eligible, pick, present}
use Rattle.metric_events.specs.declared.limits.TheConstants.{MAX_TAKEN}
use Rattle.delta_book.specs.Journal.{Journal, history, journal_of}
use Rattle.delta_book.specs.inner.AtHome.{home_point, home_points}
use Rattle.delta_book.proofs.Sent.{home_points_sent}
use Rattle.out_texts.specs.Back.{ReadsBack}
use Rattle.forward_law.specs.Book.{and_admitted, taken_points, alone, series_sum, series_sums}
use Rattle.forward_law.specs.Book.{IsForwarded, IsSummed}

-- all of them may be taken
all_eligible : (sender : List ℕ) (ps : List DataPoint)
    → filter (is_eligible [] []) (alone sender ps) ≡ alone sender ps
all_eligible sender [] = refl
all_eligible sender (p ∷ ps) = ap (λ qs. admitted 1 sender p ∷ qs) (all_eligible sender ps)

-- all are pending
all_home : (sender : List ℕ) (ps : List DataPoint) (x : Identity)
    → home_points x (alone sender ps) ≡ of_series x (alone sender ps)
all_home sender [] x = refl
all_home sender (p ∷ ps) x =
    elim (is_of x (admitted 1 sender p))
    as (λ v. cond (v && true) (admitted 1 sender p ∷ home_points x (alone sender ps))
    (home_points x (alone sender ps))
    ≡ cond v (admitted 1 sender p ∷ of_series x (alone sender ps))
    (of_series x (alone sender ps))) [
      | true ↦ ap (λ qs. admitted 1 sender p ∷ qs) (all_home sender ps x)
      | false ↦ all_home sender ps x
    ]

map_same : {A B : Type 0} (f g : A → B) (xs : List A) → ((x : A) → f x ≡ g x) → map f xs ≡ map g xs
map_same f g [] same = refl
map_same f g (x ∷ xs) same =
    ap (λ y. y ∷ map f xs) (same x) ∙ ap (λ ys. g x ∷ ys) (map_same f g xs same)

-- so a flush has the sum of each series
summed : (sender : List ℕ) (ps : List DataPoint)
    → taken_points (and_admitted Start sender ps) ≡ series_sums (alone sender ps)
summed sender ps =
    let E = and_admitted Start sender ps in
    let qs = alone sender ps in
    let series = take MAX_TAKEN (series_in_order qs) in
    sym (home_points_sent E 1 (pick E MAX_TAKEN) (omega arith))
    ∙ ap (λ rs. present (map (home_point qs) (take MAX_TAKEN (series_in_order rs))))
    (all_eligible sender ps)
    ∙ ap present (map_same (home_point qs) (series_sum qs) series
    (λ x. ap (merged x) (all_home sender ps x)))

-- what forwards a post through a book in which nothing has happened
pub forwarded_alone : (book : Journal) (F : History) (sender bytes text : List ℕ)
    → book ≡ journal_of first_opening [] → IsForwarded (history book) F sender bytes text
    → IsSummed sender bytes text
forwarded_alone book F sender bytes text fresh h = record {
  post = h.post;
  said = h.said;
  back = subst (ReadsBack text) (ap
      (λ b. taken_points (and_admitted (history b) sender h.post.points)) fresh
      ∙ summed sender h.post.points) h.back;
}
