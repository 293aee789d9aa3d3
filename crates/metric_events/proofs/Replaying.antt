-- Batches admitted one after another behind rest, in whatever order keeps each series in turn, and
-- senders quarantined.
use Rattle.std.proofs.Common.{◌≡◌, ℕ, ◌+◌, ◌*◌, ◌≤◌, Bool, true, cond, List, [], ◌∷◌, ◌++◌, map}
use Rattle.std.proofs.Common.{max, length, refl, ap, sym, ◌∙◌, subst, arith, append_assoc}
use Rattle.std.proofs.Common.{length-append}
use Rattle.std.specs.List.{list_any, list_all, filter}
use Rattle.std.proofs.lemmas.List.{append-nil, map-append}
use Rattle.series_id.specs.Identity.{Identity, row_length}
use Rattle.metric_events.specs.Rows.{add_rows, fits}
use Rattle.metric_events.specs.History.{History, Start, ◌▸◌, ◌then◌, entries}
use Rattle.metric_events.specs.Points.{points, is_home, admitted}
use Rattle.metric_events.specs.Running.{open_batches, live_flushes, held_senders}
use Rattle.metric_events.specs.Senders.{are_once}
use Rattle.metric_events.specs.Series.{is_of, of_series, owner, frontier, hull, row_sum, sum_of}
use Rattle.metric_events.specs.Series.{series_count}
use Rattle.metric_events.specs.Standing.{stands, sum_where}
use Rattle.metric_events.specs.Legal.{IsLegal, MayAdmit, is_in_order, is_held}
use Rattle.metric_events.specs.Recovery.{bare, pending, IsAtRest, FlushesNothing, are_in_turn}
use Rattle.metric_events.specs.Recovery.{bare_points, Numbered, all_points, readmitted, quarantined}
use Rattle.metric_events.specs.Recovery.{AreBatches, IsAtMost}
use Rattle.metric_events.specs.Congruence.{home_hull, StandAlike, IsCalm, MayReplay, Repeats}
use Rattle.metric_events.specs.declared.accepted.Accepted.{Accepted}
use Rattle.metric_events.specs.declared.batch.Batch.{Batch}
use Rattle.metric_events.specs.declared.limits.TheConstants.{MAX_SERIES, MAX_HELD, MAX_ENTRIES}
use Rattle.metric_events.specs.declared.event.Event.TheVariants.{Admit, Confirm, Quarantine}
use Rattle.metric_events.specs.Recall.{news}
use Rattle.metric_events.proofs.Lists.{all_append, all_first, all_last, filter-map, filter-filter}
use Rattle.metric_events.proofs.Counts.{NoOther, count_le}
use Rattle.metric_events.proofs.Fits.{fits_le}
use Rattle.metric_events.proofs.Sums.{row_le_add, add_rows-comm, add_rows-assoc}
use Rattle.metric_events.proofs.Bare.{bare_owner, bare_frontier, bare_sum, bare_hull, bare_admitted}
use Rattle.metric_events.proofs.Bare.{all_bare, sum_append, owner_append, frontier_append}
use Rattle.metric_events.proofs.Behind.{only_behind, live_then}
use Rattle.metric_events.proofs.Recovering.{home_behind, pending_behind, from_bare, turn_clearer}
use Rattle.metric_events.proofs.Recovering.{turn_first, turn_last, turn_order}
use Rattle.metric_events.proofs.Readmitting.{trail, trail_is, ended, opened_last, none_over, holds}
use Rattle.metric_events.proofs.Readmitting.{holds_is, once_before}

record Going (F S : History) (ns : List Numbered) (all : List Accepted) (quiet : ℕ) : Type 0 where
  admits : FlushesNothing S
  legal : IsLegal (F then S)
  none_open : open_batches (F then S) ≡ []
  none_held : held_senders (F then S) ≡ []
  short : entries (F then S) + 2 * length ns + 2 * quiet ≤ MAX_ENTRIES
  rest : pending (F then S) ++ all_points ns ≡ all
  new : AreBatches (F then S) ns

-- what the whole is to meet
record Fit (F : History) (all : List Accepted) : Type 0 where
  turn : are_in_turn (points F) all ≡ true
  few_series : series_count (points F ++ all) ≤ MAX_SERIES
  small : (x : Identity) → fits x.kind (sum_of x (points F ++ all)) ≡ true

in_order_here : (F S : History) (body : Batch) (rest all : List Accepted) → IsAtRest F
    → are_in_turn (points F) all ≡ true → FlushesNothing S → IsLegal (F then S)
    → pending (F then S) ++ (bare_points body ++ rest) ≡ all
    → is_in_order (points (F then S)) body.sender body.points ≡ true
in_order_here F S body rest all r t n m e =
    sym (turn_order body.sender body.points (points (F then S)))
    ∙ subst (λ (us : List Accepted). are_in_turn us (bare_points body) ≡ true)
    (sym (only_behind F S r.batches n m))
    (turn_clearer (bare_points body) (points F ++ map bare (news S)) (points F ++ news S)
    (from_bare (points F) (news S))
    (subst (λ (us : List Accepted). are_in_turn (points F ++ us) (bare_points body) ≡ true)
    (pending_behind F S r n m)
    (turn_first (points F ++ pending (F then S)) (bare_points body) rest
    (turn_last (points F) (pending (F then S)) (bare_points body ++ rest)
    (subst (λ (us : List Accepted). are_in_turn (points F) us ≡ true) (sym e) t)))))

no_other_here : (F S : History) (b : ℕ) (body : Batch) (rest all : List Accepted) → IsAtRest F
    → FlushesNothing S → IsLegal (F then S) → pending (F then S) ++ (bare_points body ++ rest) ≡ all
    → NoOther (points ((F then S) ▸ Admit b body)) (points F ++ all)
no_other_here F S b body rest all r n m e = record { all = every }
  where
    every : (t : Identity → Bool) → list_all (λ a. t a.point.series) (points F ++ all) ≡ true
        → list_all (λ a. t a.point.series)
        (points (F then S) ++ map (admitted b body.sender) body.points) ≡ true
    every t k = all_append u (points (F then S)) (map (admitted b body.sender) body.points)
        (subst (λ (qs : List Accepted). list_all u qs ≡ true) (sym (only_behind F S r.batches n m))
        (all_append u (points F) (news S) (all_first u (points F) all k) of_second)) of_third
      where
        u : Accepted → Bool
        u a = t a.point.series

        whole : list_all u (pending (F then S) ++ (bare_points body ++ rest)) ≡ true
        whole = subst (λ (qs : List Accepted). list_all u qs ≡ true) (sym e)
            (all_last u (points F) all k)

        of_second : list_all u (news S) ≡ true
        of_second = sym (all_bare u (λ a. refl) (news S))
            ∙ subst (λ (qs : List Accepted). list_all u qs ≡ true) (pending_behind F S r n m)
            (all_first u (pending (F then S)) (bare_points body ++ rest) whole)

        of_third : list_all u (map (admitted b body.sender) body.points) ≡ true
        of_third = sym (all_bare u (λ a. refl) (map (admitted b body.sender) body.points))
            ∙ subst (λ (qs : List Accepted). list_all u qs ≡ true)
            (sym (bare_admitted b body.sender body.points))
            (all_first u (bare_points body) rest
            (all_last u (pending (F then S)) (bare_points body ++ rest) whole))

sum_here : (F S : History) (b : ℕ) (body : Batch) (rest all : List Accepted) (x : Identity)
    → IsAtRest F → FlushesNothing S → IsLegal (F then S)
    → pending (F then S) ++ (bare_points body ++ rest) ≡ all
    → sum_of x (points F ++ all)
    ≡ add_rows (sum_of x rest) (sum_of x (points ((F then S) ▸ Admit b body)))
sum_here F S b body rest all x r n m e =
    right ∙ (order (sum_of x (points F)) (sum_of x (pending (F then S)))
    (sum_of x (bare_points body)) (sum_of x rest) ∙ ap (add_rows (sum_of x rest)) (sym left))
  where
    order : (f p b c : List ℕ)
        → add_rows f (add_rows p (add_rows b c)) ≡ add_rows c (add_rows (add_rows f p) b)
    order f p b c =
        sym (add_rows-assoc f p (add_rows b c))
        ∙ (sym (add_rows-assoc (add_rows f p) b c)
        ∙ add_rows-comm (add_rows (add_rows f p) b) c)

    left : sum_of x (points ((F then S) ▸ Admit b body))
        ≡ add_rows (add_rows (sum_of x (points F)) (sum_of x (pending (F then S))))
        (sum_of x (bare_points body))
    left =
        sum_append x (points (F then S)) (map (admitted b body.sender) body.points)
        ∙ (ap (add_rows (sum_of x (points (F then S))))
        (sym (bare_sum x (map (admitted b body.sender) body.points))
        ∙ ap (sum_of x) (bare_admitted b body.sender body.points))
        ∙ ap (λ ws. add_rows ws (sum_of x (bare_points body)))
        (ap (sum_of x) (only_behind F S r.batches n m)
        ∙ (sum_append x (points F) (news S)
        ∙ ap (add_rows (sum_of x (points F)))
        (sym (bare_sum x (news S)) ∙ ap (sum_of x) (sym (pending_behind F S r n m))))))

    right : sum_of x (points F ++ all)
        ≡ add_rows (sum_of x (points F))
        (add_rows (sum_of x (pending (F then S)))
        (add_rows (sum_of x (bare_points body)) (sum_of x rest)))
    right =
        sum_append x (points F) all
        ∙ ap (add_rows (sum_of x (points F)))
        (ap (sum_of x) (sym e)
        ∙ (sum_append x (pending (F then S)) (bare_points body ++ rest)
        ∙ ap (add_rows (sum_of x (pending (F then S)))) (sum_append x (bare_points body) rest)))

may_go : (F S : History) (n : Numbered) (ns : List Numbered) (all : List Accepted) (quiet : ℕ)
    → IsAtRest F → Fit F all → Going F S (n ∷ ns) all quiet → MayAdmit (F then S) n.number n.body
may_go F S n ns all quiet r t g = record {
  fresh = g.new.1;
  some = g.new.0.some;
  made = g.new.0.made;
  free = ap (is_held n.body.sender) g.none_held;
  few_open = rw g.none_open (omega arith);
  room = omega (arith, no_live, no_held, no_open, g.short);
  in_order = in_order_here F S n.body (all_points ns) all r t.turn g.admits g.legal g.rest;
  few_series = omega (
    arith,
    count_le (points ((F then S) ▸ Admit n.number n.body))
        (points F ++ all) (no_other_here F S n.number n.body (all_points ns) all r g.admits g.legal
        g.rest),
    t.few_series,
  );
  small = none_over (points ((F then S) ▸ Admit n.number n.body)) n.body.points
      (λ x. fits_le x.kind (sum_of x (points ((F then S) ▸ Admit n.number n.body)))
      (sum_of x (points F ++ all))
      (subst (λ ws. IsAtMost (sum_of x (points ((F then S) ▸ Admit n.number n.body))) ws)
      (sym (sum_here F S n.number n.body (all_points ns) all x r g.admits g.legal g.rest))
      (row_le_add (sum_of x (all_points ns))
      (sum_of x (points ((F then S) ▸ Admit n.number n.body))))) (t.small x));
}
  where
    no_live : length (live_flushes (F then S)) ≡ 0
    no_live = ap length (live_then F S g.admits ∙ r.live)

    no_held : length (held_senders (F then S)) ≡ 0
    no_held = ap length g.none_held

    no_open : length (open_batches (F then S)) ≡ 0
    no_open = ap length g.none_open

go : (F S : History) (ns : List Numbered) (all : List Accepted) (quiet : ℕ) → IsAtRest F → Fit F all
    → Going F S ns all quiet → Going F (trail S ns) [] all quiet
go F S [] all quiet r t g = g
go F S (n ∷ ns) all quiet r t g =
    go F (S ▸ Admit n.number n.body ▸ Confirm n.number) ns all quiet r t (record {
      admits = g.admits;
      legal = next;
      none_open = ended n.number (open_batches (F then S)) g.none_open;
      none_held = g.none_held;
      short = omega (arith, g.short);
      rest = ap (λ us. us ++ all_points ns) more
          ∙ (append_assoc (pending (F then S)) (bare_points n.body) (all_points ns) ∙ g.rest);
      new = g.new.2;
    })
  where
    next : IsLegal (F then (S ▸ Admit n.number n.body ▸ Confirm n.number))
    next = (
      (g.legal, may_go F S n ns all quiet r t g),
      opened_last n.number
          (open_batches (F then S)) g.none_open,
    )

    more : pending (F then (S ▸ Admit n.number n.body ▸ Confirm n.number))
        ≡ pending (F then S) ++ bare_points n.body
    more =
        pending_behind F (S ▸ Admit n.number n.body ▸ Confirm n.number) r g.admits next
        ∙ (map-append bare (news S) (map (admitted n.number n.body.sender) n.body.points)
        ∙ (ap (λ us. us ++ map bare (map (admitted n.number n.body.sender) n.body.points))
        (sym (pending_behind F S r g.admits g.legal))
        ∙ ap (λ us. pending (F then S) ++ us) (bare_admitted n.number n.body.sender n.body.points)))

-- the senders one after another

record Holding (F S : History) (ss all : List (List ℕ)) (ps : List Accepted) : Type 0 where
  admits : FlushesNothing S
  legal : IsLegal (F then S)
  none_open : open_batches (F then S) ≡ []
  pends : pending (F then S) ≡ ps
  holding : held_senders (F then S) ++ ss ≡ all
  short : entries (F then S) + length (held_senders (F then S)) + 2 * length ss ≤ MAX_ENTRIES

hold : (F S : History) (ss all : List (List ℕ)) (ps : List Accepted) → IsAtRest F
    → are_once all ≡ true → length all ≤ MAX_HELD → Holding F S ss all ps
    → Holding F (holds S ss) [] all ps
hold F S [] all ps r o f g = g
hold F S (s ∷ ss) all ps r o f g = hold F (S ▸ Quarantine s) ss all ps r o f (record {
  admits = g.admits;
  legal = (
    g.legal,
    record {
      free = once_before s (held_senders (F then S)) ss
          (subst (λ xs. are_once xs ≡ true) (sym g.holding) o);
      few = omega (arith, f, ap length g.holding, length-append (held_senders (F then S)) (s ∷ ss));
      room = omega (arith, no_live, no_open, g.short);
    },
  );
  none_open = g.none_open;
  pends = g.pends;
  holding = append_assoc (held_senders (F then S)) (s ∷ []) ss ∙ g.holding;
  short = omega (arith, g.short, length-append (held_senders (F then S)) (s ∷ []));
})
  where
    no_live : length (live_flushes (F then S)) ≡ 0
    no_live = ap length (live_then F S g.admits ∙ r.live)

    no_open : length (open_batches (F then S)) ≡ 0
    no_open = ap length g.none_open

-- a replay, whole

replay : (F : History) (ns : List Numbered) (ss : List (List ℕ)) → IsLegal F → MayReplay F ns ss
    → Holding F (holds (trail Start ns) ss) [] ss (all_points ns)
replay F ns ss m h =
    hold F (trail Start ns) ss ss (all_points ns) h.rest h.once h.few_held (record {
      admits = gone.admits;
      legal = gone.legal;
      none_open = gone.none_open;
      pends = sym (append-nil (pending (F then trail Start ns))) ∙ gone.rest;
      holding = ap (λ us. us ++ ss) gone.none_held;
      short = omega (arith, gone.short, ap length gone.none_held);
    })
  where
    none : pending F ≡ []
    none = pending_behind F Start h.rest tt m

    gone : Going F (trail Start ns) [] (all_points ns) (length ss)
    gone = go F Start ns (all_points ns) (length ss) h.rest
        (record { turn = h.turn; few_series = h.few_series; small = h.small }) (record {
          admits = tt;
          legal = m;
          none_open = h.rest.batches;
          none_held = h.rest.held;
          short = h.room;
          rest = ap (λ us. us ++ all_points ns) none;
          new = h.batches;
        })

same_trail : (F : History) (ns : List Numbered) (ss : List (List ℕ))
    → quarantined (readmitted F ns) ss ≡ F then holds (trail Start ns) ss
same_trail F ns ss =
    ap (λ K. quarantined K ss) (trail_is F Start ns) ∙ holds_is F (trail Start ns) ss

-- what comes behind rest, and is never flushed, says of each series what its points say

pub record Brings (F R : History) (all : List Accepted) (ss : List (List ℕ)) : Type 0 where
  pub owners : (x : Identity) → owner x (points R) ≡ owner x (points F ++ all)
  pub frontiers : (x : Identity) → frontier x (points R) ≡ frontier x (points F ++ all)
  pub sums : (x : Identity) → sum_where is_home x (points R) ≡ sum_of x all
  pub spans : (x : Identity) → home_hull x R ≡ hull (of_series x all)
  pub held : (s : List ℕ) → is_held s (held_senders R) ≡ is_held s ss

brought_behind : (F S : History) (all : List Accepted) (ss : List (List ℕ)) → IsAtRest F
    → FlushesNothing S → IsLegal (F then S) → pending (F then S) ≡ all
    → held_senders (F then S) ≡ ss → Brings F (F then S) all ss
brought_behind F S all ss r n m p h = record {
  owners = λ x. ap (owner x) (only_behind F S r.batches n m)
      ∙ (owner_append x (points F) (news S)
      ∙ (ap (λ s. cond (list_any (is_of x) (points F)) (owner x (points F)) s)
      (sym (bare_owner x (news S)) ∙ ap (owner x) same)
      ∙ sym (owner_append x (points F) all)));
  frontiers = λ x. ap (frontier x) (only_behind F S r.batches n m)
      ∙ (frontier_append x (points F) (news S)
      ∙ (ap (max (frontier x (points F)))
      (sym (bare_frontier x (news S)) ∙ ap (frontier x) same)
      ∙ sym (frontier_append x (points F) all)));
  sums = λ x. ap (row_sum (row_length x.kind)) (here x)
      ∙ (sym (bare_sum x (news S)) ∙ ap (sum_of x) same);
  spans = λ x. ap hull (here x) ∙ (sym (bare_hull (of_series x (news S)))
      ∙ ap hull (sym (filter-map (is_of x) bare (λ a. refl) (news S)) ∙ ap (of_series x) same));
  held = λ s. ap (is_held s) h;
}
  where
    same : map bare (news S) ≡ all
    same = sym (pending_behind F S r n m) ∙ p

    here : (x : Identity)
        → filter (stands is_home) (of_series x (points (F then S))) ≡ of_series x (news S)
    here x = filter-filter (stands is_home) (is_of x) (points (F then S))
        ∙ ap (of_series x) (home_behind F S r n m)

pub brought_law : (F : History) (ns : List Numbered) (ss : List (List ℕ)) → IsLegal F
    → MayReplay F ns ss → IsLegal (quarantined (readmitted F ns) ss)
    × IsCalm (quarantined (readmitted F ns) ss)
    × Brings F (quarantined (readmitted F ns) ss) (all_points ns) ss
brought_law F ns ss m h = (
  subst IsLegal (sym (same_trail F ns ss)) end.legal,
  subst IsCalm (sym (same_trail F ns ss))
      (record {
        batches = end.none_open;
        live =
            live_then F (holds (trail Start ns) ss) end.admits ∙ h.rest.live;
      }),
  subst (λ (R : History). Brings F R (all_points ns) ss) (sym (same_trail F ns ss))
      (brought_behind F (holds (trail Start ns) ss) (all_points ns) ss h.rest end.admits end.legal
      end.pends
      (sym (append-nil (held_senders (F then holds (trail Start ns) ss))) ∙ end.holding)),
)
  where
    end : Holding F (holds (trail Start ns) ss) [] ss (all_points ns)
    end = replay F ns ss m h

pub replayed_law : (E F : History) (ns : List Numbered) (ss : List (List ℕ)) → IsLegal F
    → MayReplay F ns ss → Repeats E F ns ss
    → IsLegal (quarantined (readmitted F ns) ss) × IsCalm (quarantined (readmitted F ns) ss)
    × StandAlike E (quarantined (readmitted F ns) ss)
replayed_law E F ns ss m h r =
    let end = brought_law F ns ss m h in
    let b = end.2 in (
      end.0,
      end.1,
      record {
        owners = λ x. b.owners x ∙ r.owners x;
        frontiers =
            λ x. b.frontiers x ∙ r.frontiers x;
        sums = λ x. b.sums x ∙ r.sums x;
        spans =
            λ x. b.spans x ∙ r.spans x;
        held = λ s. b.held s ∙ r.held s;
      },
    )
