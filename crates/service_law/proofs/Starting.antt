-- The machine's books beside a history: a start, whose books know what was sent, and get the posts
-- again that are in no request.
use Rattle.std.proofs.Common.{◌≡◌, ℕ, ◌<◌, Bool, true, false, cond, not, ◌&&◌, ◌||◌, Option, None}
use Rattle.std.proofs.Common.{List, [], ◌∷◌, ◌++◌, map, max, refl, ap, sym, ◌∙◌, subst, arith}
use Rattle.std.proofs.Common.{append_assoc}
use Rattle.std.specs.List.{list_any, list_all, AllByRecursion}
use Rattle.std.proofs.lemmas.Bool.{and_parts, cond-true, or_parts}
use Rattle.std.proofs.lemmas.List.{append-nil}
use Rattle.series_id.specs.Identity.{Identity, row_length}
use Rattle.series_id.specs.Order.{same_series}
use Rattle.series_id.proofs.Order.{same_series-exact}
use Rattle.metric_events.specs.Interval.{Interval}
use Rattle.metric_events.specs.declared.opened_series.OpenedSeries.{OpenedSeries}
use Rattle.metric_events.specs.declared.opening.Opening.{Opening}
use Rattle.metric_events.specs.History.{History, Opened, ◌▸◌}
use Rattle.metric_events.specs.Points.{points, carried, carried_of, is_among, is_home, mark}
use Rattle.metric_events.specs.Running.{held_senders}
use Rattle.metric_events.specs.Series.{is_of, of_series, owner, frontier, row_sum}
use Rattle.metric_events.specs.Standing.{nothing_of, stands, sum_where}
use Rattle.metric_events.specs.Legal.{IsLegal, MayAdmit, is_held, is_in_order}
use Rattle.metric_events.specs.Recovery.{IsAtRest, Numbered, all_points, are_in_turn, bare_points}
use Rattle.metric_events.specs.Recovery.{is_not_home, quarantined, readmitted}
use Rattle.metric_events.specs.Priming.{IsKnown, Known, KnowsExactly, all_known, frontier_among}
use Rattle.metric_events.specs.Priming.{owner_among}
use Rattle.metric_events.specs.Recall.{bodies}
use Rattle.metric_events.specs.declared.accepted.Accepted.{Accepted}
use Rattle.metric_events.specs.declared.event.Event.TheVariants.{Admit, Confirm, Quarantine}
use Rattle.metric_events.proofs.Lists.{all_filter, filter_none}
use Rattle.metric_events.proofs.Identities.{same_series-turned}
use Rattle.metric_events.proofs.Opened.{all_marks}
use Rattle.metric_events.proofs.Fits.{made_points}
use Rattle.metric_events.proofs.Closing.{ends_there}
use Rattle.metric_events.proofs.Bare.{none_frontier, none_owner}
use Rattle.metric_events.proofs.Recovering.{turn_append, turn_first, turn_order}
use Rattle.metric_events.proofs.Congruence.{held_next}
use Rattle.service_law.specs.Machine.{Run, World, book, fresh, has_span, has_taken, readmit}
use Rattle.service_law.specs.Machine.{replay_order, takes, unsent}
use Rattle.service_law.specs.Counted.{all_rules}
use Rattle.service_law.specs.Known.{Knows, Opens, Says, Spells, fresh_books, said}
use Rattle.service_law.proofs.Bookkeeping.{posted_law}

-- what is said of series, and the points of which it is said

there : (k : Known) (ks : List Known) (x : Identity) → same_series k.series x ≡ false
    → is_among x (all_known (k ∷ ks)) ≡ true → is_among x (all_known ks) ≡ true
there k ks x e m =
    let q : (false || is_among x (all_known ks)) ≡ true =
    sym (ap (λ v. v || is_among x (all_known ks)) (same_series-turned x k.series ∙ e)) ∙ m in q

among_owner : (known : List Accepted) (x : Identity) (ks : List Known)
    → AllByRecursion (Says known) ks → is_among x (all_known ks) ≡ true
    → owner_among x ks ≡ owner x known
among_owner known x [] h k = absurd (let q : false ≡ true = k in cc q)
among_owner known x (k ∷ ks) h m = both (same_series k.series x) refl (among_owner known x ks h.1)
  where
    both : (v : Bool) → same_series k.series x ≡ v
        → (is_among x (all_known ks) ≡ true → owner_among x ks ≡ owner x known)
        → owner_among x (k ∷ ks) ≡ owner x known
    both true e r = ap (λ v. cond v k.owner (owner_among x ks)) e
        ∙ (h.0.owned ∙ ap (λ y. owner y known) (same_series-exact k.series x e))
    both false e r = ap (λ v. cond v k.owner (owner_among x ks)) e ∙ r (there k ks x e m)

among_frontier : (known : List Accepted) (x : Identity) (ks : List Known)
    → AllByRecursion (Says known) ks → is_among x (all_known ks) ≡ true
    → frontier_among x ks ≡ frontier x known
among_frontier known x [] h k = absurd (let q : false ≡ true = k in cc q)
among_frontier known x (k ∷ ks) h m =
    both (same_series k.series x) refl (among_frontier known x ks h.1)
  where
    both : (v : Bool) → same_series k.series x ≡ v
        → (is_among x (all_known ks) ≡ true → frontier_among x ks ≡ frontier x known)
        → frontier_among x (k ∷ ks) ≡ frontier x known
    both true e r = ap (λ v. cond v k.frontier (frontier_among x ks)) e
        ∙ (h.0.ends ∙ ap (λ y. frontier y known) (same_series-exact k.series x e))
    both false e r = ap (λ v. cond v k.frontier (frontier_among x ks)) e ∙ r (there k ks x e m)

among_late : (x : Identity) (ks : List Known) → AllByRecursion IsKnown ks
    → is_among x (all_known ks) ≡ true → 0 < frontier_among x ks
among_late x [] h k = absurd (let q : false ≡ true = k in cc q)
among_late x (k ∷ ks) h m = both (same_series k.series x) refl (among_late x ks h.1)
  where
    both : (v : Bool) → same_series k.series x ≡ v
        → (is_among x (all_known ks) ≡ true → 0 < frontier_among x ks)
        → 0 < frontier_among x (k ∷ ks)
    both true e r = subst (λ n. 0 < n)
        (sym (ap (λ v. cond v k.frontier (frontier_among x ks)) e)) (omega (arith, h.0.late))
    both false e r = subst (λ n. 0 < n)
        (sym (ap (λ v. cond v k.frontier (frontier_among x ks)) e)) (r (there k ks x e m))

none_among : (x : Identity) (ks : List Known) → is_among x (all_known ks) ≡ false
    → (owner_among x ks ≡ []) × (frontier_among x ks ≡ 0)
none_among x [] h = (refl, refl)
none_among x (k ∷ ks) h =
    let p = or_parts (same_series x k.series) (is_among x (all_known ks)) h in
    let e = same_series-turned k.series x ∙ p.0 in
    let rest = none_among x ks p.1 in (
      ap (λ v. cond v k.owner (owner_among x ks)) e ∙ rest.0,
      ap (λ v. cond v k.frontier (frontier_among x ks)) e ∙ rest.1,
    )

spelled_owner : (ks : List Known) (known : List Accepted) → Spells ks known → (x : Identity)
    → owner_among x ks ≡ owner x known
spelled_owner ks known h x = both (is_among x (all_known ks)) refl
  where
    both : (v : Bool) → is_among x (all_known ks) ≡ v → owner_among x ks ≡ owner x known
    both true m = among_owner known x ks h.each m
    both false m = (none_among x ks m).0 ∙ sym (none_owner x known (sym (h.any x) ∙ m))

spelled_frontier : (ks : List Known) (known : List Accepted) → Spells ks known → (x : Identity)
    → frontier_among x ks ≡ frontier x known
spelled_frontier ks known h x = both (is_among x (all_known ks)) refl
  where
    both : (v : Bool) → is_among x (all_known ks) ≡ v → frontier_among x ks ≡ frontier x known
    both true m = among_frontier known x ks h.each m
    both false m = (none_among x ks m).1 ∙ sym (none_frontier x known (sym (h.any x) ∙ m))

-- a history that was primed

nothing_home : (x : Identity) (qs : List Accepted) → list_all is_not_home qs ≡ true
    → nothing_of x ≡ sum_where is_home x qs
nothing_home x qs h = sym (ap (row_sum (row_length x.kind))
    (filter_none (stands is_home) (of_series x qs) (all_filter is_not_home (is_of x) qs h)))

pub primed_law : (H : History) (ks : List Known) (known : List Accepted) → IsLegal H → IsAtRest H
    → KnowsExactly ks H → AllByRecursion IsKnown ks → Spells ks known
    → Knows H (fresh_books known)
primed_law H ks known l r k i h = record {
  any = λ x. ap (list_any (is_of x)) (append-nil known)
      ∙ (sym (h.any x) ∙ same x (is_among x (all_known ks)) (list_any (is_of x) (points H))
      refl refl);
  owners = λ x. ap (owner x) (append-nil known)
      ∙ (sym (spelled_owner ks known h x) ∙ sym (k.owners x));
  frontiers = λ x. ap (frontier x) (append-nil known)
      ∙ (sym (spelled_frontier ks known h x) ∙ sym (k.frontiers x));
  sums = λ x. nothing_home x (points H) r.home;
  held = λ s. ap (is_held s) (sym r.held);
}
  where
    same : (x : Identity) (v w : Bool) → is_among x (all_known ks) ≡ v
        → list_any (is_of x) (points H) ≡ w
        → is_among x (all_known ks) ≡ list_any (is_of x) (points H)
    same x true true e g = e ∙ sym g
    same x false false e g = e ∙ sym g
    same x true false e g = absurd (omega
        (arith, among_late x ks i e, k.frontiers x, none_frontier x (points H) g))
    same x false true e g = absurd (omega (
      arith,
      (none_among x ks e).1,
      k.frontiers x,
      ends_there x (points H) (made_points H l) g,
    ))

-- an opening

none_carried : (ss : List OpenedSeries)
    → AllByRecursion (λ (s : OpenedSeries). s.home_span ≡ None) ss → carried ss ≡ []
none_carried [] h = refl
none_carried (s ∷ ss) h =
    ap (λ (o : Option Interval). carried_of s o ++ carried ss) h.0 ∙ none_carried ss h.1

marks_any : (x : Identity) (ss : List OpenedSeries)
    → list_any (is_of x) (map mark ss) ≡ is_among x (all_known (map said ss))
marks_any x [] = refl
marks_any x (s ∷ ss) =
    ap (λ v. v || list_any (is_of x) (map mark ss)) (same_series-turned s.series x)
    ∙ ap (λ v. same_series x s.series || v) (marks_any x ss)

marks_owner : (x : Identity) (ss : List OpenedSeries)
    → owner x (map mark ss) ≡ owner_among x (map said ss)
marks_owner x [] = refl
marks_owner x (s ∷ ss) = ap (λ t. cond (same_series s.series x) s.owner t) (marks_owner x ss)

-- each mark of a series has the frontier of its points
marks_frontier : (known : List Accepted) (x : Identity) (ss : List OpenedSeries)
    → AllByRecursion (Says known) (map said ss) → list_any (is_of x) (map mark ss) ≡ true
    → frontier x (map mark ss) ≡ frontier x known
marks_frontier known x [] h k = absurd (let q : false ≡ true = k in cc q)
marks_frontier known x (s ∷ ss) h k =
    both (same_series s.series x) (list_any (is_of x) (map mark ss)) refl refl
    (marks_frontier known x ss h.1)
  where
    here : same_series s.series x ≡ true → s.frontier ≡ frontier x known
    here e = h.0.ends ∙ ap (λ y. frontier y known) (same_series-exact s.series x e)

    opened : (v : Bool) → same_series s.series x ≡ v → frontier x (map mark (s ∷ ss))
        ≡ cond v (max s.frontier (frontier x (map mark ss))) (frontier x (map mark ss))
    opened v e = ap (λ u. cond u (max s.frontier (frontier x (map mark ss)))
        (frontier x (map mark ss))) e

    both : (v w : Bool) → same_series s.series x ≡ v → list_any (is_of x) (map mark ss) ≡ w
        → (list_any (is_of x) (map mark ss) ≡ true
        → frontier x (map mark ss) ≡ frontier x known)
        → frontier x (map mark (s ∷ ss)) ≡ frontier x known
    both true true e g r = opened true e ∙ omega (arith, here e, r g)
    both true false e g r = opened true e
        ∙ omega (arith, here e, none_frontier x (map mark ss) g)
    both false w e g r = opened false e
        ∙ r (let q : (false || list_any (is_of x) (map mark ss)) ≡ true = rw e at k in q)

pub opened_law : (O : Opening) (known : List Accepted) → Opens O known
    → Knows (Opened O) (fresh_books known)
opened_law O known h = record {
  any = λ x. ap (list_any (is_of x)) (append-nil known)
      ∙ (sym (marked x) ∙ sym (ap (list_any (is_of x)) whole));
  owners = λ x. ap (owner x) (append-nil known)
      ∙ (sym (marks_owner x O.series ∙ spelled_owner (map said O.series) known h.spells x)
      ∙ sym (ap (owner x) whole));
  frontiers = λ x. ap (frontier x) (append-nil known)
      ∙ (end x (list_any (is_of x) known) refl ∙ sym (ap (frontier x) whole));
  sums = λ x. nothing_home x marks (all_marks is_not_home (λ s. refl) O.series)
      ∙ sym (ap (sum_where is_home x) whole);
  held = λ s. ap (is_held s) (sym h.held);
}
  where
    marks : List Accepted
    marks = map mark O.series

    whole : points (Opened O) ≡ marks
    whole = ap (λ us. marks ++ us) (none_carried O.series h.empty) ∙ append-nil marks

    marked : (x : Identity) → list_any (is_of x) marks ≡ list_any (is_of x) known
    marked x = marks_any x O.series ∙ h.spells.any x

    end : (x : Identity) (v : Bool) → list_any (is_of x) known ≡ v
        → frontier x known ≡ frontier x marks
    end x true e = sym (marks_frontier known x O.series h.spells.each (marked x ∙ e))
    end x false e = none_frontier x known e ∙ sym (none_frontier x marks (marked x ∙ e))

-- posts that are replayed one after another

abbrev books : List Accepted → List Accepted → List (List ℕ) → Run
books known pending held = record {
  known = known;
  pending = pending;
  held = held;
  queue = [];
  unplaced = [];
  checkpoint = None;
}

before_replay : (E : History) (ns : List Numbered) → IsLegal (readmitted E ns) → IsLegal E
before_replay E [] l = l
before_replay E (n ∷ ns) l =
    (before_replay (E ▸ Admit n.number n.body ▸ Confirm n.number) ns l).0.0

record IsReplayed (E : History) (known pending : List Accepted) (ns : List Numbered) : Type 0 where
  all : readmit known pending (bodies ns) ≡ pending ++ all_points ns
  knows : Knows (readmitted E ns) (books known (pending ++ all_points ns) [])

one_more : (E : History) (known pending : List Accepted) (n : Numbered) (ns : List Numbered)
    → Knows E (books known pending []) → are_in_turn [] (known ++ pending) ≡ true
    → IsLegal (readmitted E (n ∷ ns))
    → (Knows (E ▸ Admit n.number n.body ▸ Confirm n.number)
    (books known (pending ++ bare_points n.body) [])
    → are_in_turn [] (known ++ (pending ++ bare_points n.body)) ≡ true
    → IsReplayed (E ▸ Admit n.number n.body ▸ Confirm n.number) known
    (pending ++ bare_points n.body) ns)
    → IsReplayed E known pending (n ∷ ns)
one_more E known pending n ns k t l rest = record {
  all = cond-true (is_in_order (known ++ pending) n.body.sender n.body.points) _ _ in_order
      ∙ ((rest more turn).all ∙ append_assoc pending (bare_points n.body) (all_points ns));
  knows = subst (λ (us : List Accepted). Knows (readmitted after ns) (books known us []))
      (append_assoc pending (bare_points n.body) (all_points ns)) (rest more turn).knows;
}
  where
    after : History
    after = E ▸ Admit n.number n.body ▸ Confirm n.number

    may : MayAdmit E n.number n.body
    may = (before_replay after ns l).0.1

    one : (takes (books known pending []) n.body ≡ true)
        × Knows after (has_taken all_rules n.body (books known pending []))
    one = posted_law E (books known pending []) n.number n.body k t may

    in_order : is_in_order (known ++ pending) n.body.sender n.body.points ≡ true
    in_order = (and_parts (list_all has_span n.body.points)
        (is_in_order (known ++ pending) n.body.sender n.body.points)
        (and_parts (not (is_held n.body.sender []))
        (list_all has_span n.body.points
        && is_in_order (known ++ pending) n.body.sender n.body.points) one.0).1).1

    turn : are_in_turn [] (known ++ (pending ++ bare_points n.body)) ≡ true
    turn = subst (λ (us : List Accepted). are_in_turn [] us ≡ true)
        (append_assoc known pending (bare_points n.body))
        (turn_append [] (known ++ pending) (bare_points n.body) t
        (turn_order n.body.sender n.body.points (known ++ pending) ∙ in_order))

    more : Knows after (books known (pending ++ bare_points n.body) [])
    more = record {
      any = one.1.any;
      owners = one.1.owners;
      frontiers = one.1.frontiers;
      sums = one.1.sums;
      held = one.1.held;
    }

replay_all : (E : History) (known pending : List Accepted) (ns : List Numbered)
    → Knows E (books known pending []) → are_in_turn [] (known ++ pending) ≡ true
    → IsLegal (readmitted E ns) → IsReplayed E known pending ns
replay_all E known pending [] k t l = record {
  all = sym (append-nil pending);
  knows = subst (λ (us : List Accepted). Knows E (books known us [])) (sym (append-nil pending)) k;
}
replay_all E known pending (n ∷ ns) k t l = one_more E known pending n ns k t l
    (λ more turn. replay_all (E ▸ Admit n.number n.body ▸ Confirm n.number) known
    (pending ++ bare_points n.body) ns more turn l)

-- the senders that are quarantined then

same_points : (E : History) (ss : List (List ℕ)) → points (quarantined E ss) ≡ points E
same_points E [] = refl
same_points E (s ∷ ss) = same_points (E ▸ Quarantine s) ss

all_held : (E : History) (ss hs : List (List ℕ))
    → ((s : List ℕ) → is_held s hs ≡ is_held s (held_senders E)) → (s : List ℕ)
    → is_held s (hs ++ ss) ≡ is_held s (held_senders (quarantined E ss))
all_held E [] hs h s = ap (is_held s) (append-nil hs) ∙ h s
all_held E (t ∷ ss) hs h s = ap (is_held s) (sym (append_assoc hs (t ∷ []) ss))
    ∙ all_held (E ▸ Quarantine t) ss (hs ++ t ∷ [])
    (held_next (Quarantine t) (held_senders E) hs h) s

pub started_law : (F : History) (w : World) (known : List Accepted) (ns : List Numbered)
    (ss : List (List ℕ)) → Knows F (fresh_books known)
    → are_in_turn [] (book (fresh all_rules w known)) ≡ true
    → bodies ns ≡ replay_order all_rules w.quarantined (unsent w w.journal)
    → ((s : List ℕ) → is_held s ss ≡ is_held s w.quarantined) → IsLegal (readmitted F ns)
    → ((fresh all_rules w known).pending ≡ all_points ns)
    × Knows (quarantined (readmitted F ns) ss) (fresh all_rules w known)
started_law F w known ns ss k t b h l = (
  pends,
  subst (λ (us : List Accepted). Knows (quarantined (readmitted F ns) ss)
      (books known us w.quarantined)) (sym pends) (record {
        any = λ x. gone.knows.any x ∙ sym (ap (list_any (is_of x)) same);
        owners = λ x. gone.knows.owners x ∙ sym (ap (owner x) same);
        frontiers = λ x. gone.knows.frontiers x ∙ sym (ap (frontier x) same);
        sums = λ x. gone.knows.sums x ∙ sym (ap (sum_where is_home x) same);
        held = λ s. sym (h s) ∙ all_held (readmitted F ns) ss [] gone.knows.held s;
      }),
)
  where
    sent : are_in_turn [] (known ++ []) ≡ true
    sent = ap (are_in_turn []) (append-nil known)
        ∙ turn_first [] known (readmit known [] (replay_order all_rules w.quarantined
        (unsent w w.journal))) t

    gone : IsReplayed F known [] ns
    gone = replay_all F known [] ns k sent l

    pends : readmit known [] (replay_order all_rules w.quarantined (unsent w w.journal))
        ≡ all_points ns
    pends = ap (readmit known []) (sym b) ∙ gone.all

    same : points (quarantined (readmitted F ns) ss) ≡ points (readmitted F ns)
    same = same_points (readmitted F ns) ss
