-- One point of each series, without any amount, makes exactly these series known.
use Rattle.std.proofs.Common.{◌≡◌, ℕ, pos, ◌+◌, ◌-◌, ◌≤◌, ◌<◌, Bool, true, false, cond, not, ◌&&◌}
use Rattle.std.proofs.Common.{List, [], ◌∷◌, ◌++◌, map, length, length-append, sum, refl, ap, sym}
use Rattle.std.proofs.Common.{◌∙◌, subst, arith, suc, zero, Some}
use Rattle.std.specs.Prelude.{nat_le, slice_index}
use Rattle.std.specs.List.{list_any, list_all, All}
use Rattle.std.proofs.lemmas.Bool.{and_parts, and_from, or_from, or_left, or_right, or_parts}
use Rattle.std.proofs.lemmas.Bool.{not-true, le-leb, leb-true}
use Rattle.std.proofs.lemmas.List.{length-map}
use Rattle.std.proofs.lemmas.List.Elements.{filter-append}
use Rattle.series_id.specs.Identity.{Identity, row_length}
use Rattle.series_id.specs.declared.kinds.Kind.{Kind}
use Rattle.series_id.specs.declared.kinds.Kind.TheVariants.{Sum, Histogram}
use Rattle.series_id.specs.Order.{same_series}
use Rattle.series_id.proofs.Order.{same_series-refl, same_series-exact}
use Rattle.metric_events.specs.Rows.{add_rows, zeros, are_within, word_limit, fits, keeps_sign}
use Rattle.metric_events.specs.Senders.{same_sender}
use Rattle.metric_events.specs.declared.limits.TheConstants.{MAX_COUNT, MAX_SERIES}
use Rattle.metric_events.specs.DataPoint.{DataPoint, IsPoint, IsRowOfOne}
use Rattle.metric_events.specs.History.{History, Opened, opening, ◌▸◌, ◌then◌}
use Rattle.metric_events.specs.Points.{points, is_among, mark, carried, admitted, taken, landed}
use Rattle.metric_events.specs.Points.{is_of_other_batch}
use Rattle.metric_events.specs.Running.{held_senders}
use Rattle.metric_events.specs.Series.{is_of, of_series, owner, frontier, row_sum, sum_of}
use Rattle.metric_events.specs.Legal.{IsLegal, MayAdmit, are_distinct, is_clear, is_held, is_over}
use Rattle.metric_events.specs.Recovery.{bare, not_pending, is_not_home, Remembers, HasSpace}
use Rattle.metric_events.specs.Recovery.{IsAtMost}
use Rattle.metric_events.specs.Priming.{Known, IsKnown, zero_row, zero_point, primer, primer_point}
use Rattle.metric_events.specs.Priming.{primer_points, all_known, owner_among, frontier_among}
use Rattle.metric_events.specs.Priming.{KnowsExactly, AdmitsNothing, Primes}
use Rattle.metric_events.specs.declared.accepted.Accepted.{Accepted}
use Rattle.metric_events.specs.declared.place.Place.TheVariants.{Home, Acknowledged, Dropped}
use Rattle.metric_events.specs.declared.event.Event.TheVariants.{Admit, Undo, Take, Settle, Drop}
use Rattle.metric_events.specs.declared.event.Event.TheVariants.{GiveBack}
use Rattle.metric_events.specs.Recall.{moved, news}
use Rattle.metric_events.proofs.Identities.{same_of, same_series-turned}
use Rattle.metric_events.proofs.Lists.{all_append, all_filter, all_weaker, any_map, filter_none}
use Rattle.metric_events.proofs.Invariants.{all_taken, all_landed}
use Rattle.metric_events.proofs.Counts.{count_length}
use Rattle.metric_events.proofs.Intervals.{interval_is}
use Rattle.metric_events.proofs.Fits.{taken_point, landed_point, sum_of-map, zeros_within, fits_le}
use Rattle.metric_events.proofs.Sums.{row_le_zeros, row_le_add_both, add_rows-zeros, add_rows-comm}
use Rattle.metric_events.proofs.Sums.{added_at, length-zeros}
use Rattle.metric_events.proofs.Bare.{bare_owner, bare_frontier, bare_sum, all_bare, sum_append}
use Rattle.metric_events.proofs.Behind.{moved_keeps, only_behind}
use Rattle.metric_events.proofs.Kept.{moved_owner, moved_frontier, moved_any, only_moved}
use Rattle.metric_events.proofs.Recovering.{pending_behind, known}

-- owners and frontiers

primed_owner : (x : Identity) (ks : List Known) → owner x (primer_points ks) ≡ owner_among x ks
primed_owner x [] = refl
primed_owner x (k ∷ ks) = ap (λ s. cond (same_series k.series x) k.owner s) (primed_owner x ks)

none_among : (x : Identity) (ks : List Known) → is_among x (all_known ks) ≡ false
    → frontier_among x ks ≡ 0
none_among x [] h = refl
none_among x (k ∷ ks) h =
    let p = or_parts (same_series x k.series) (is_among x (all_known ks)) h in
    either (same_series k.series x) refl p.0 (none_among x ks p.1)
  where
    either : (v : Bool) → same_series k.series x ≡ v → same_series x k.series ≡ false
        → frontier_among x ks ≡ 0 → frontier_among x (k ∷ ks) ≡ 0
    either true e n r = absurd (let q : true ≡ false =
        sym (same_of x k.series (sym (same_series-exact k.series x e))) ∙ n in cc)
    either false e n r = rw e r

primed_frontier : (x : Identity) (ks : List Known) → are_distinct (all_known ks) ≡ true
    → frontier x (primer_points ks) ≡ frontier_among x ks
primed_frontier x [] h = refl
primed_frontier x (k ∷ ks) h = both (same_series k.series x) refl (primed_frontier x ks p.1)
  where
    p : (not (is_among k.series (all_known ks)) ≡ true) × (are_distinct (all_known ks) ≡ true)
    p = and_parts (not (is_among k.series (all_known ks))) (are_distinct (all_known ks)) h

    both : (v : Bool) → same_series k.series x ≡ v
        → frontier x (primer_points ks) ≡ frontier_among x ks
        → frontier x (primer_points (k ∷ ks)) ≡ frontier_among x (k ∷ ks)
    both true e r =
        let none : frontier_among x ks ≡ 0 =
        none_among x ks (subst (λ y. is_among y (all_known ks) ≡ false)
        (same_series-exact k.series x e) (not-true (is_among k.series (all_known ks)) p.0))
        in
        rw e (omega (arith, r, none))
    both false e r = rw e r

primed_points : (F S : History) (ks : List Known) → Primes F S ks → points (F then S) ≡ news S
primed_points F S ks w =
    only_behind F S w.rest.batches w.still w.legal ∙ ap (λ qs. qs ++ news S) w.empty

primed_bare : (F S : History) (ks : List Known) → Primes F S ks
    → map bare (news S) ≡ primer_points ks
primed_bare F S ks w = sym (pending_behind F S w.rest w.still w.legal) ∙ w.pends

pub primed_law : (F S G : History) (ks : List Known) → Primes F S ks → AdmitsNothing G
    → KnowsExactly ks ((F then S) then G)
primed_law F S G ks w g = record {
  owners = λ x. ap (owner x) (only_moved (F then S) G g)
      ∙ (moved_owner x G (points (F then S))
      ∙ (ap (owner x) (primed_points F S ks w)
      ∙ (sym (bare_owner x (news S))
      ∙ (ap (owner x) (primed_bare F S ks w) ∙ primed_owner x ks))));
  frontiers = λ x. ap (frontier x) (only_moved (F then S) G g)
      ∙ (moved_frontier x G (points (F then S))
      ∙ (ap (frontier x) (primed_points F S ks w)
      ∙ (sym (bare_frontier x (news S))
      ∙ (ap (frontier x) (primed_bare F S ks w) ∙ primed_frontier x ks w.distinct))));
}

-- such a point may be admitted

zeros_total : (n : ℕ) → sum (zeros n) ≡ 0
zeros_total zero = refl
zeros_total (suc n) = omega (arith, zeros_total n)

zero_fits : (kind : Kind) → fits kind (zero_row kind) ≡ true
zero_fits (Sum monotonic) = refl
zero_fits (Histogram bounds) = and_from
    (are_within (word_limit (Histogram bounds)) (zero_row (Histogram bounds)))
    (nat_le (sum (zeros (length bounds + 1))) MAX_COUNT)
    (zeros_within (λ k. word_limit (Histogram bounds) (suc (suc (suc k))))
    (length bounds + 1)) (le-leb (sum (zeros (length bounds + 1))) MAX_COUNT
    (omega (arith, zeros_total (length bounds + 1))))

zero_long : (kind : Kind) → length (zero_row kind) ≡ row_length kind
zero_long (Sum monotonic) = refl
zero_long (Histogram bounds) = omega (arith, length-zeros (length bounds + 1))

zero_signed : (kind : Kind) → keeps_sign kind (zero_row kind) ≡ true
zero_signed (Sum true) = refl
zero_signed (Sum false) = refl
zero_signed (Histogram bounds) = refl

zero_of_one : (kind : Kind) → IsRowOfOne kind (zero_row kind)
zero_of_one (Sum monotonic) = (pos 0, refl)
zero_of_one (Histogram bounds) = (Some 0, zeros (length bounds + 1), refl)

zero_is : (k : Known) → IsKnown k → IsPoint (zero_point k)
zero_is k h = record {
  merged = record {
    named = h.named;
    span = interval_is (record { start = k.frontier - 1; end = k.frontier }) (omega (arith, h.late))
        (omega (arith, h.late)) h.fits;
    long = zero_long k.series.kind;
    within = zero_fits k.series.kind;
    signed = zero_signed k.series.kind;
  };
  one = zero_of_one k.series.kind;
}

others : (x : Identity) (ks : List Known) → is_among x (all_known ks) ≡ false
    → list_all (λ a. not (is_of x a)) (primer_points ks) ≡ true
others x [] h = refl
others x (k ∷ ks) h =
    let p = or_parts (same_series x k.series) (is_among x (all_known ks)) h in
    and_from (not (same_series k.series x)) (list_all (λ a. not (is_of x a)) (primer_points ks))
    (ap not (same_series-turned k.series x ∙ p.0)) (others x ks p.1)

pub primable_law : (F S : History) (b : ℕ) (k : Known) (ks : List Known) → Primes F S ks → IsKnown k
    → is_among k.series (all_known ks) ≡ false → length ks < MAX_SERIES
    → is_held k.owner (held_senders (F then S)) ≡ false → HasSpace (F then S) b
    → MayAdmit (F then S) b (primer k)
primable_law F S b k ks w g d c u h = record {
  fresh = h.fresh;
  some = omega arith;
  made = one_made;
  free = u;
  few_open = h.few_open;
  room = h.room;
  in_order = and_from (list_all (λ a. is_clear k.owner (zero_point k) a.point a.sender)
      (points (F then S))) true (all_weaker (λ a. not (is_of k.series a))
      (λ a. is_clear k.owner (zero_point k) a.point a.sender)
      (λ a m. or_left (not (same_series a.point.series k.series))
      (same_sender a.sender k.owner && nat_le a.point.span.end (k.frontier - 1)) m)
      (points (F then S)) none) refl;
  few_series = omega (
    arith,
    count_length (points ((F then S) ▸ Admit b (primer k))),
    length-append
        (points (F then S)) (admitted b k.owner (zero_point k) ∷ []),
    long,
    c,
  );
  small = or_from (is_over (points ((F then S) ▸ Admit b (primer k))) (zero_point k)) false
      (ap not fitting) refl;
}
  where
    mine : points (F then S) ≡ news S
    mine = primed_points F S ks w

    same : map bare (news S) ≡ primer_points ks
    same = primed_bare F S ks w

    one_made : All IsPoint (zero_point k ∷ [])
    one_made zero d l = zero_is k g
    one_made (suc i) d l = absurd (omega (arith, l))

    none : list_all (λ a. not (is_of k.series a)) (points (F then S)) ≡ true
    none =
        ap (list_all (λ a. not (is_of k.series a))) mine
        ∙ (sym (all_bare (λ a. not (is_of k.series a)) (λ a. refl) (news S))
        ∙ subst (λ (qs : List Accepted). list_all (λ a. not (is_of k.series a)) qs ≡ true)
        (sym same) (others k.series ks d))

    long : length (points (F then S)) ≡ length ks
    long = ap length mine
        ∙ (sym (length-map (news S) bare) ∙ (ap length same ∙ length-map ks primer_point))

    own : of_series k.series (admitted b k.owner (zero_point k) ∷ [])
        ≡ admitted b k.owner (zero_point k) ∷ []
    own = ap (λ v. cond v (admitted b k.owner (zero_point k) ∷ []) []) (same_series-refl k.series)

    alone : of_series k.series (points ((F then S) ▸ Admit b (primer k)))
        ≡ admitted b k.owner (zero_point k) ∷ []
    alone = filter-append (is_of k.series) (points (F then S))
        (admitted b k.owner (zero_point k) ∷ [])
        ∙ (ap (λ us. us ++ of_series k.series (admitted b k.owner (zero_point k) ∷ []))
        (filter_none (is_of k.series) (points (F then S)) none) ∙ own)

    fitting : fits k.series.kind (sum_of k.series (points ((F then S) ▸ Admit b (primer k)))) ≡ true
    fitting =
        ap (λ us. fits k.series.kind (row_sum (row_length k.series.kind) us)) alone
        ∙ (ap (fits k.series.kind) (add_rows-comm (zero_row k.series.kind)
        (zeros (row_length k.series.kind))
        ∙ add_rows-zeros (row_length k.series.kind) (zero_row k.series.kind)
        (omega (arith, zero_long k.series.kind)))
        ∙ zero_fits k.series.kind)

-- in a first round each point counts, so a primed history has no more of anything

counts_one : (kind : Kind) (row : List ℕ) → IsRowOfOne kind row → 1 ≤ slice_index row 0
counts_one (Sum monotonic) row h = rw h.1 (omega arith)
counts_one (Histogram bounds) row h = rw h.2 (omega arith)

counts_admitted : (b : ℕ) (s : List ℕ) (ps : List DataPoint) → All IsPoint ps
    → list_all (λ a. nat_le 1 (slice_index a.point.row 0)) (map (admitted b s) ps) ≡ true
counts_admitted b s [] h = refl
counts_admitted b s (p ∷ ps) h =
    and_from (nat_le 1 (slice_index p.row 0))
    (list_all (λ a. nat_le 1 (slice_index a.point.row 0)) (map (admitted b s) ps))
    (le-leb 1 (slice_index p.row 0) (counts_one p.series.kind p.row (h 0 p (omega arith)).one))
    (counts_admitted b s ps (λ k d l. h (suc k) d (omega arith)))

all_count : (E : History) → IsLegal E → (opening E).series ≡ []
    → list_all (λ a. nat_le 1 (slice_index a.point.row 0)) (points E) ≡ true
all_count (Opened O) l e =
    ap (λ ss. list_all (λ a. nat_le 1 (slice_index a.point.row 0)) (map mark ss ++ carried ss)) e
all_count (E ▸ Admit b body) l e =
    all_append (λ a. nat_le 1 (slice_index a.point.row 0)) (points E)
    (map (admitted b body.sender) body.points) (all_count E l.0 e)
    (counts_admitted b body.sender body.points l.1.made)
all_count (E ▸ Undo b) l e = all_filter (λ a. nat_le 1 (slice_index a.point.row 0))
    (is_of_other_batch b) (points E) (all_count E l.0 e)
all_count (E ▸ Take f series) l e =
    all_taken (λ p b s. nat_le 1 (slice_index p.row 0)) f series (points E) (all_count E l.0 e)
all_count (E ▸ Settle f) l e = all_landed (λ p b s. nat_le 1 (slice_index p.row 0)) f Acknowledged
    (points E) (all_count E l.0 e)
all_count (E ▸ Drop f) l e =
    all_landed (λ p b s. nat_le 1 (slice_index p.row 0)) f Dropped (points E) (all_count E l.0 e)
all_count (E ▸ GiveBack f) l e =
    all_landed (λ p b s. nat_le 1 (slice_index p.row 0)) f Home (points E) (all_count E l.0 e)
all_count (E ▸ v) l e = all_count E l.0 e

sum_counts : (x : Identity) (qs : List Accepted)
    → list_all (λ a. nat_le 1 (slice_index a.point.row 0)) qs ≡ true → list_any (is_of x) qs ≡ true
    → 1 ≤ slice_index (sum_of x qs) 0
sum_counts x [] h k = absurd (let q : false ≡ true = k in cc)
sum_counts x (a ∷ qs) h k = both (is_of x a) refl (sum_counts x qs p.1)
  where
    p : (nat_le 1 (slice_index a.point.row 0) ≡ true)
        × (list_all (λ a. nat_le 1 (slice_index a.point.row 0)) qs ≡ true)
    p = and_parts (nat_le 1 (slice_index a.point.row 0))
        (list_all (λ a. nat_le 1 (slice_index a.point.row 0)) qs) h

    both : (v : Bool) → is_of x a ≡ v
        → (list_any (is_of x) qs ≡ true → 1 ≤ slice_index (sum_of x qs) 0)
        → 1 ≤ slice_index (sum_of x (a ∷ qs)) 0
    both true e r = rw e (omega
        (arith, leb-true 1 (slice_index a.point.row 0) p.0, added_at a.point.row (sum_of x qs) 0))
    both false e r = let k2 : list_any (is_of x) qs ≡ true = rw e at k in rw e (r k2)

one_le : (n : ℕ) (ys : List ℕ) → 1 ≤ slice_index ys 0 → IsAtMost (1 ∷ zeros n) ys
one_le n [] h = absurd (omega (arith, h))
one_le n (y ∷ ys) h = (omega (arith, h), row_le_zeros n ys)

zero_row_le : (kind : Kind) (ys : List ℕ) → 1 ≤ slice_index ys 0 → IsAtMost (zero_row kind) ys
zero_row_le (Sum monotonic) ys h = one_le 2 ys h
zero_row_le (Histogram bounds) ys h = one_le (suc (suc (length bounds + 1))) ys h

primer_row : (kind : Kind) → add_rows (zero_row kind) (zeros (row_length kind)) ≡ zero_row kind
primer_row kind = add_rows-comm (zero_row kind) (zeros (row_length kind))
    ∙ add_rows-zeros (row_length kind) (zero_row kind) (omega (arith, zero_long kind))

primer_sum : (x : Identity) (ks : List Known) (ys : List ℕ) → are_distinct (all_known ks) ≡ true
    → (list_any (is_of x) (primer_points ks) ≡ true → 1 ≤ slice_index ys 0)
    → IsAtMost (sum_of x (primer_points ks)) ys
primer_sum x [] ys d h = row_le_zeros (row_length x.kind) ys
primer_sum x (k ∷ ks) ys d h = both (same_series k.series x) refl (primer_sum x ks ys p.1)
  where
    p : (not (is_among k.series (all_known ks)) ≡ true) × (are_distinct (all_known ks) ≡ true)
    p = and_parts (not (is_among k.series (all_known ks))) (are_distinct (all_known ks)) d

    both : (v : Bool) → same_series k.series x ≡ v
        → ((list_any (is_of x) (primer_points ks) ≡ true → 1 ≤ slice_index ys 0)
        → IsAtMost (sum_of x (primer_points ks)) ys)
        → IsAtMost (sum_of x (primer_points (k ∷ ks))) ys
    both true e r =
        let z = same_series-exact k.series x e in
        let away : list_all (λ a. not (is_of x a)) (primer_points ks) ≡ true =
        subst (λ y. list_all (λ a. not (is_of y a)) (primer_points ks) ≡ true) z
        (others k.series ks (not-true (is_among k.series (all_known ks)) p.0)) in
        let none = filter_none (is_of x) (primer_points ks) away in
        let one : 1 ≤ slice_index ys 0 =
        h (or_left (same_series k.series x) (list_any (is_of x) (primer_points ks)) e) in
        rw (e, none) (subst (λ y. IsAtMost (add_rows (zero_row y.kind) (zeros (row_length x.kind)))
        ys) (sym z) (subst (λ ws. IsAtMost ws ys) (sym (primer_row x.kind))
        (zero_row_le x.kind ys one)))
    both false e r = rw e
        (r (λ n. h (or_right (same_series k.series x) (list_any (is_of x) (primer_points ks)) n)))

pub moved_sum : (x : Identity) (G : History) (qs : List Accepted)
    → sum_of x (moved G qs) ≡ sum_of x qs
moved_sum x G qs = moved_keeps (λ us. sum_of x us ≡ sum_of x qs)
    (λ f series us e. sum_of-map x (taken f series) (taken_point f series) us ∙ e)
    (λ f q us e. sum_of-map x (landed f q) (landed_point f q) us ∙ e) G qs refl

primed_sums : (F S G : History) (ks : List Known) (x : Identity) → Primes F S ks → AdmitsNothing G
    → sum_of x (points ((F then S) then G)) ≡ sum_of x (primer_points ks)
primed_sums F S G ks x w g = ap (sum_of x) (only_moved (F then S) G g)
    ∙ (moved_sum x G (points (F then S))
    ∙ (ap (sum_of x) (primed_points F S ks w)
    ∙ (sym (bare_sum x (news S)) ∙ ap (sum_of x) (primed_bare F S ks w))))

pub spared_law : (F S G E : History) (ks : List Known) (x : Identity) → Primes F S ks
    → AdmitsNothing G → IsLegal ((F then S) then G) → IsLegal E → (opening E).series ≡ []
    → Remembers ((F then S) then G) E
    → IsAtMost (sum_of x (points ((F then S) then G))) (sum_of x (not_pending E))
spared_law F S G E ks x w g l m b h =
    subst (λ ws. IsAtMost ws (sum_of x (not_pending E))) (sym (primed_sums F S G ks x w g))
    (primer_sum x ks (sum_of x (not_pending E)) w.distinct
    (λ k. sum_counts x (not_pending E)
    (all_filter (λ a. nat_le 1 (slice_index a.point.row 0)) is_not_home (points E)
    (all_count E m b)) (sym (known E ((F then S) then G) m l h x) ∙ (there ∙ k))))
  where
    there : list_any (is_of x) (points ((F then S) then G)) ≡ list_any (is_of x) (primer_points ks)
    there = ap (list_any (is_of x)) (only_moved (F then S) G g)
        ∙ (moved_any x G (points (F then S))
        ∙ (ap (list_any (is_of x)) (primed_points F S ks w)
        ∙ (sym (any_map (is_of x) bare (λ a. refl) (news S))
        ∙ ap (list_any (is_of x)) (primed_bare F S ks w))))

-- whatever the round: it has one point of each series more

pub more : (f e g : List ℕ) → IsAtMost f e → IsAtMost (add_rows f g) (add_rows e g)
more f e g h = subst (λ ws. IsAtMost ws (add_rows e g)) (add_rows-comm g f)
    (subst (λ ws. IsAtMost (add_rows g f) ws) (add_rows-comm g e) (row_le_add_both g f e h))

pub slack_law : (F S G : History) (ks : List Known) (rs : List Accepted) (x : Identity)
    → Primes F S ks → AdmitsNothing G
    → fits x.kind (add_rows (zero_row x.kind) (sum_of x rs)) ≡ true
    → fits x.kind (sum_of x (points ((F then S) then G) ++ rs)) ≡ true
slack_law F S G ks rs x w g h =
    fits_le x.kind (sum_of x (points ((F then S) then G) ++ rs))
    (add_rows (zero_row x.kind) (sum_of x rs))
    (subst (λ ws. IsAtMost ws (add_rows (zero_row x.kind) (sum_of x rs)))
    (sym (sum_append x (points ((F then S) then G)) rs))
    (more (sum_of x (points ((F then S) then G))) (zero_row x.kind) (sum_of x rs) less))
    h
  where
    less : IsAtMost (sum_of x (points ((F then S) then G))) (zero_row x.kind)
    less = subst (λ ws. IsAtMost ws (zero_row x.kind)) (sym (primed_sums F S G ks x w g))
        (primer_sum x ks (zero_row x.kind) w.distinct
        (λ k. counts_one x.kind (zero_row x.kind) (zero_of_one x.kind)))
