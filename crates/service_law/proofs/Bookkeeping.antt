-- The machine's books beside a history: what it may admit they take, and what stands alike they
-- know.
use Rattle.std.proofs.Common.{◌≡◌, ℕ, Bool, true, false, cond, not, ◌&&◌, ◌||◌, List, [], ◌∷◌, ◌++◌}
use Rattle.std.proofs.Common.{map, max, refl, ap, sym, ◌∙◌, subst, append_assoc}
use Rattle.std.specs.List.{list_any, list_all, filter, AllByRecursion}
use Rattle.std.proofs.lemmas.Bool.{and_parts, and_from, or_left, or_right, not_from_false}
use Rattle.std.proofs.lemmas.List.Elements.{filter-append, recursion_from_All}
use Rattle.std.proofs.lemmas.List.Folds.{list_any-append}
use Rattle.series_id.specs.Identity.{Identity, row_length}
use Rattle.series_id.specs.Order.{same_series}
use Rattle.metric_events.specs.DataPoint.{DataPoint, IsPoint}
use Rattle.metric_events.specs.Rows.{add_rows}
use Rattle.metric_events.specs.History.{History, ◌▸◌}
use Rattle.metric_events.specs.Points.{points, is_home, admitted}
use Rattle.metric_events.specs.Senders.{same_sender}
use Rattle.metric_events.specs.Series.{is_of, of_series, owner, frontier, row_sum, sum_of}
use Rattle.metric_events.specs.Standing.{stands, sum_where}
use Rattle.metric_events.specs.Legal.{IsLegal, MayAdmit, is_held, is_in_order}
use Rattle.metric_events.specs.Recovery.{are_in_turn, bare_points}
use Rattle.metric_events.specs.Congruence.{StandAlike}
use Rattle.metric_events.specs.declared.accepted.Accepted.{Accepted}
use Rattle.metric_events.specs.declared.batch.Batch.{Batch}
use Rattle.metric_events.specs.declared.event.Event.TheVariants.{Admit, Confirm}
use Rattle.metric_events.proofs.Lists.{all_weaker, filter_all, filter_keeps, filter-filter}
use Rattle.metric_events.proofs.Senders.{same_sender-exact, same_sender-refl}
use Rattle.metric_events.proofs.Sums.{row_sum-append}
use Rattle.metric_events.proofs.Owners.{OneOwner, is_by, is_by_or_other}
use Rattle.metric_events.proofs.Bare.{owner_append, frontier_append, sum_append}
use Rattle.metric_events.proofs.Behind.{home_admitted}
use Rattle.metric_events.proofs.Recovering.{alike_known, clearer_known, turn_clearer, turn_order}
use Rattle.metric_events.proofs.Interleaving.{turn_own}
use Rattle.service_law.specs.Machine.{Run, book, group_of, has_span, has_taken, takes}
use Rattle.service_law.specs.Counted.{all_rules}
use Rattle.service_law.specs.Known.{Knows}
use Rattle.service_law.proofs.Same.{all_own}

-- points in turn have one owner of each series

any_own : (x : Identity) (s : List ℕ) (qs : List Accepted) → list_any (is_by x s) qs ≡ true
    → list_any (λ a. same_sender a.sender s) (of_series x qs) ≡ true
any_own x s [] h = h
any_own x s (a ∷ qs) h = both (is_of x a) refl (any_own x s qs)
  where
    both : (v : Bool) → is_of x a ≡ v
        → (list_any (is_by x s) qs ≡ true
        → list_any (λ a. same_sender a.sender s) (of_series x qs) ≡ true)
        → list_any (λ a. same_sender a.sender s) (of_series x (a ∷ qs)) ≡ true
    both true e r = rw e (split (same_sender a.sender s) refl)
      where
        split : (v : Bool) → same_sender a.sender s ≡ v
            → (same_sender a.sender s || list_any (λ a. same_sender a.sender s) (of_series x qs))
            ≡ true
        split true g = or_left _ _ g
        split false g = or_right _ _ (r
            (let k : ((true && false) || list_any (is_by x s) qs) ≡ true = rw (e, g) at h in k))
    both false e r = rw e (r (let k : ((false && same_sender a.sender s) || list_any (is_by x s) qs)
        ≡ true = rw e at h in k))

all_here : (x : Identity) (s : List ℕ) (qs : List Accepted)
    → list_all (λ a. same_sender a.sender s) (of_series x qs) ≡ true
    → list_all (is_by_or_other x s) qs ≡ true
all_here x s [] h = refl
all_here x s (a ∷ qs) h = both (is_of x a) refl (all_here x s qs)
  where
    both : (v : Bool) → is_of x a ≡ v
        → (list_all (λ a. same_sender a.sender s) (of_series x qs) ≡ true
        → list_all (is_by_or_other x s) qs ≡ true)
        → list_all (is_by_or_other x s) (a ∷ qs) ≡ true
    both true e r =
        let k : (same_sender a.sender s && list_all (λ a. same_sender a.sender s) (of_series x qs))
        ≡ true = rw e at h in
        let l = and_parts (same_sender a.sender s)
        (list_all (λ a. same_sender a.sender s) (of_series x qs)) k in
        and_from (is_by_or_other x s a) (list_all (is_by_or_other x s) qs)
        (or_right (not (is_of x a)) (same_sender a.sender s) l.0) (r l.1)
    both false e r =
        let k : list_all (λ a. same_sender a.sender s) (of_series x qs) ≡ true = rw e at h in
        and_from (is_by_or_other x s a) (list_all (is_by_or_other x s) qs)
        (or_left (not (is_of x a)) (same_sender a.sender s) (not_from_false _ e)) (r k)

-- where one of these has the sender s, and all have that of the first one, all have it
all_same : (s : List ℕ) (a : Accepted) (us : List Accepted)
    → list_all (λ b. same_sender a.sender b.sender) us ≡ true
    → list_any (λ b. same_sender b.sender s) (a ∷ us) ≡ true
    → list_all (λ b. same_sender b.sender s) (a ∷ us) ≡ true
all_same s a us h k = subst (λ (t : List ℕ). list_all (λ b. same_sender b.sender t) (a ∷ us) ≡ true)
    (first (same_sender a.sender s) refl)
    (and_from (same_sender a.sender a.sender) (list_all (λ b. same_sender b.sender a.sender) us)
    (same_sender-refl a.sender) (all_weaker (λ b. same_sender a.sender b.sender)
    (λ b. same_sender b.sender a.sender)
    (λ b g. subst (λ (t : List ℕ). same_sender t a.sender ≡ true)
    (same_sender-exact a.sender b.sender g) (same_sender-refl a.sender)) us h))
  where
    found : (us : List Accepted) → list_all (λ b. same_sender a.sender b.sender) us ≡ true
        → list_any (λ b. same_sender b.sender s) us ≡ true → a.sender ≡ s
    found [] h k = absurd (let q : false ≡ true = k in cc q)
    found (b ∷ us) h k =
        let l = and_parts (same_sender a.sender b.sender)
        (list_all (λ b. same_sender a.sender b.sender) us) h in
        here b (same_sender b.sender s) refl l.0 (λ m. found us l.1 m)
        (list_any (λ b. same_sender b.sender s) us) k
      where
        here : (b : Accepted) (v : Bool) → same_sender b.sender s ≡ v
            → same_sender a.sender b.sender ≡ true
            → (list_any (λ b. same_sender b.sender s) us ≡ true → a.sender ≡ s) → (w : Bool)
            → (same_sender b.sender s || list_any (λ b. same_sender b.sender s) us) ≡ true
            → a.sender ≡ s
        here b true e g r w k =
            same_sender-exact a.sender b.sender g ∙ same_sender-exact b.sender s e
        here b false e g r w k = r
            (let q : (false || list_any (λ b. same_sender b.sender s) us) ≡ true = rw e at k in q)

    first : (v : Bool) → same_sender a.sender s ≡ v → a.sender ≡ s
    first true e = same_sender-exact a.sender s e
    first false e = found us h
        (let q : (false || list_any (λ b. same_sender b.sender s) us) ≡ true = rw e at k in q)

pub one_owner : (qs : List Accepted) → are_in_turn [] qs ≡ true → OneOwner qs
one_owner qs h = record {
  all = λ x s k. all_here x s qs
      (own x s (of_series x qs) (filter_all (is_of x) qs) (turn_own x qs [] h) (any_own x s qs k));
}
  where
    own : (x : Identity) (s : List ℕ) (us : List Accepted) → list_all (is_of x) us ≡ true
        → are_in_turn [] us ≡ true → list_any (λ b. same_sender b.sender s) us ≡ true
        → list_all (λ b. same_sender b.sender s) us ≡ true
    own x s [] o t k = refl
    own x s (a ∷ us) o t k = let l = and_parts (is_of x a) (list_all (is_of x) us) o in
        all_same s a us (all_own x a [] us l.0 l.1 t) k

-- the points of a batch, whatever its number

any_numbered : (x : Identity) (b c : ℕ) (s : List ℕ) (ds : List DataPoint)
    → list_any (is_of x) (map (admitted b s) ds) ≡ list_any (is_of x) (map (admitted c s) ds)
any_numbered x b c s [] = refl
any_numbered x b c s (d ∷ ds) = ap (λ v. same_series d.series x || v) (any_numbered x b c s ds)

owner_numbered : (x : Identity) (b c : ℕ) (s : List ℕ) (ds : List DataPoint)
    → owner x (map (admitted b s) ds) ≡ owner x (map (admitted c s) ds)
owner_numbered x b c s [] = refl
owner_numbered x b c s (d ∷ ds) =
    ap (λ t. cond (same_series d.series x) s t) (owner_numbered x b c s ds)

frontier_numbered : (x : Identity) (b c : ℕ) (s : List ℕ) (ds : List DataPoint)
    → frontier x (map (admitted b s) ds) ≡ frontier x (map (admitted c s) ds)
frontier_numbered x b c s [] = refl
frontier_numbered x b c s (d ∷ ds) =
    ap (λ n. cond (same_series d.series x) (max d.span.end n) n) (frontier_numbered x b c s ds)

rows_numbered : (n b c : ℕ) (x : Identity) (s : List ℕ) (ds : List DataPoint)
    → row_sum n (of_series x (map (admitted b s) ds))
    ≡ row_sum n (of_series x (map (admitted c s) ds))
rows_numbered n b c x s [] = refl
rows_numbered n b c x s (d ∷ ds) = by (same_series d.series x) (rows_numbered n b c x s ds)
  where
    by : (v : Bool) → row_sum n (of_series x (map (admitted b s) ds))
        ≡ row_sum n (of_series x (map (admitted c s) ds))
        → row_sum n (cond v (admitted b s d ∷ of_series x (map (admitted b s) ds))
        (of_series x (map (admitted b s) ds)))
        ≡ row_sum n (cond v (admitted c s d ∷ of_series x (map (admitted c s) ds))
        (of_series x (map (admitted c s) ds)))
    by true r = ap (add_rows d.row) r
    by false r = r

-- what is pending with a batch more
home_more : (x : Identity) (b : ℕ) (s : List ℕ) (ds : List DataPoint) (qs : List Accepted)
    → sum_where is_home x (qs ++ map (admitted b s) ds)
    ≡ add_rows (sum_where is_home x qs) (sum_of x (map (admitted 0 s) ds))
home_more x b s ds qs =
    ap (λ us. row_sum n (filter (stands is_home) us)) (filter-append (is_of x) qs new)
    ∙ (ap (row_sum n) (filter-append (stands is_home) (of_series x qs) (of_series x new))
    ∙ (row_sum-append n (filter (stands is_home) (of_series x qs))
    (filter (stands is_home) (of_series x new))
    ∙ ap (add_rows (sum_where is_home x qs))
    (ap (row_sum n) (sym (filter-filter (is_of x) (stands is_home) new)
    ∙ ap (of_series x) (filter_keeps (stands is_home) new (home_admitted b s ds)))
    ∙ rows_numbered n b 0 x s ds)))
  where
    n : ℕ
    n = row_length x.kind

    new : List Accepted
    new = map (admitted b s) ds

all_span : (ds : List DataPoint) → AllByRecursion IsPoint ds → list_all has_span ds ≡ true
all_span [] a = refl
all_span (d ∷ ds) a =
    and_from (has_span d) (list_all has_span ds) a.0.merged.span.valid (all_span ds a.1)

pub posted_law : (E : History) (r : Run) (b : ℕ) (body : Batch) → Knows E r
    → are_in_turn [] (book r) ≡ true → MayAdmit E b body
    → (takes r body ≡ true) × Knows (E ▸ Admit b body ▸ Confirm b) (has_taken all_rules body r)
posted_law E r b body k t m = (
  and_from (not (is_held body.sender r.held))
      (list_all has_span body.points && is_in_order (book r) body.sender body.points)
      (not_from_false _ (k.held body.sender ∙ m.free))
      (and_from (list_all has_span body.points) (is_in_order (book r) body.sender body.points)
      (all_span body.points (recursion_from_All IsPoint body.points m.made)) in_order),
  record {
    any = λ x. ap (list_any (is_of x)) longer
        ∙ (list_any-append (is_of x) (book r) (bare_points body)
        ∙ (ap (λ v. v || list_any (is_of x) (bare_points body)) (k.any x)
        ∙ (ap (λ v. list_any (is_of x) (points E) || v)
        (any_numbered x 0 b body.sender body.points)
        ∙ sym (list_any-append (is_of x) (points E) new))));
    owners = λ x. ap (owner x) longer
        ∙ (owner_append x (book r) (bare_points body)
        ∙ (ap (λ v. cond v (owner x (book r)) (owner x (bare_points body))) (k.any x)
        ∙ (ap (λ s. cond (list_any (is_of x) (points E)) s (owner x (bare_points body)))
        (k.owners x) ∙ (ap (λ s. cond (list_any (is_of x) (points E))
        (owner x (points E)) s) (owner_numbered x 0 b body.sender body.points)
        ∙ sym (owner_append x (points E) new)))));
    frontiers = λ x. ap (frontier x) longer
        ∙ (frontier_append x (book r) (bare_points body)
        ∙ (ap (λ n. max n (frontier x (bare_points body))) (k.frontiers x)
        ∙ (ap (λ n. max (frontier x (points E)) n)
        (frontier_numbered x 0 b body.sender body.points)
        ∙ sym (frontier_append x (points E) new))));
    sums = λ x. sum_append x r.pending (bare_points body)
        ∙ (ap (λ row. add_rows row (sum_of x (bare_points body))) (k.sums x)
        ∙ sym (home_more x b body.sender body.points (points E)));
    held = k.held;
  },
)
  where
    new : List Accepted
    new = map (admitted b body.sender) body.points

    longer : r.known ++ (group_of r.checkpoint ++ (r.pending ++ bare_points body))
        ≡ book r ++ bare_points body
    longer = ap (λ us. r.known ++ us)
        (sym (append_assoc (group_of r.checkpoint) r.pending (bare_points body)))
        ∙ sym (append_assoc r.known (group_of r.checkpoint ++ r.pending) (bare_points body))

    in_order : is_in_order (book r) body.sender body.points ≡ true
    in_order = sym (turn_order body.sender body.points (book r))
        ∙ turn_clearer (bare_points body) (points E) (book r)
        (clearer_known (points E) (book r) (one_owner (book r) t) k.any k.owners k.frontiers)
        (turn_order body.sender body.points (points E) ∙ m.in_order)

pub recovered_law : (E F : History) (r : Run) → IsLegal E → IsLegal F → Knows E r → StandAlike E F
    → Knows F r
recovered_law E F r l m k h = record {
  any = λ x. k.any x ∙ sym (alike_known E F l m x (h.frontiers x));
  owners = λ x. k.owners x ∙ sym (h.owners x);
  frontiers = λ x. k.frontiers x ∙ sym (h.frontiers x);
  sums = λ x. k.sums x ∙ sym (h.sums x);
  held = λ s. k.held s ∙ sym (h.held s);
}
