-- The law of recovery: what the fresh history amounts to, and that only a limit can refuse a batch.
use Rattle.std.proofs.Common.{◌≡◌, ℕ, ◌≤◌, Bool, true, false, cond, not, ◌&&◌, ◌||◌, List, [], ◌∷◌}
use Rattle.std.proofs.Common.{◌++◌, map, max, refl, ap, sym, ◌∙◌, subst, arith, append_assoc}
use Rattle.std.specs.Prelude.{nat_le}
use Rattle.std.specs.List.{list_any, list_all, filter}
use Rattle.std.proofs.lemmas.Bool.{and_parts, and_from, or_left, or_right, leb-true, le-leb}
use Rattle.std.proofs.lemmas.List.{append-nil}
use Rattle.std.proofs.lemmas.List.Elements.{filter-append}
use Rattle.series_id.specs.Identity.{Identity}
use Rattle.series_id.specs.Order.{same_series}
use Rattle.series_id.proofs.Order.{same_series-refl, same_series-exact}
use Rattle.metric_events.specs.DataPoint.{DataPoint}
use Rattle.metric_events.specs.History.{History, ◌then◌}
use Rattle.metric_events.specs.Points.{points, is_home, admitted}
use Rattle.metric_events.specs.Senders.{same_sender}
use Rattle.metric_events.specs.Series.{is_of, owner, frontier}
use Rattle.metric_events.specs.Legal.{IsLegal, is_clear, is_in_order}
use Rattle.metric_events.specs.Standing.{stands}
use Rattle.metric_events.specs.Recovery.{bare, pending, not_pending, is_not_home, IsAtRest}
use Rattle.metric_events.specs.Recovery.{Remembers, FlushesNothing, are_in_turn}
use Rattle.metric_events.specs.declared.accepted.Accepted.{Accepted}
use Rattle.metric_events.specs.Recall.{news}
use Rattle.metric_events.proofs.Lists.{all_append, all_first, all_last, all_filter, all_weaker}
use Rattle.metric_events.proofs.Lists.{all_both, any_none, any_from_filter, both_at, filter_keeps}
use Rattle.metric_events.proofs.Lists.{filter_none}
use Rattle.metric_events.proofs.Senders.{same_sender-exact, same_sender-refl}
use Rattle.metric_events.proofs.Owners.{OneOwner, is_by, is_by_or_other}
use Rattle.metric_events.proofs.Fits.{Made, made_points, made_filter}
use Rattle.metric_events.proofs.Closing.{ends_there}
use Rattle.metric_events.proofs.Counts.{NoOther}
use Rattle.metric_events.proofs.Bare.{all_bare, none_frontier, none_owner}
use Rattle.metric_events.proofs.Behind.{only_behind, news_home}

-- the pending points of a history, and the others

abbrev pub home_points : History → List Accepted
home_points E = filter (stands is_home) (points E)

-- behind rest, what is pending is what came
pub home_behind : (F S : History) → IsAtRest F → FlushesNothing S → IsLegal (F then S)
    → home_points (F then S) ≡ news S
home_behind F S r n l =
    ap (filter (stands is_home)) (only_behind F S r.batches n l)
    ∙ (filter-append (stands is_home) (points F) (news S)
    ∙ (ap (λ us. us ++ filter (stands is_home) (news S))
    (filter_none (stands is_home) (points F) r.home)
    ∙ filter_keeps (stands is_home) (news S) (news_home S n)))

pub pending_behind : (F S : History) → IsAtRest F → FlushesNothing S → IsLegal (F then S)
    → pending (F then S) ≡ map bare (news S)
pending_behind F S r n l = ap (map bare) (home_behind F S r n l)

any_parts : (t h : Accepted → Bool) (qs : List Accepted) → list_any t qs ≡ true
    → list_any t (filter (λ a. not (h a)) qs) ≡ false → list_any t (filter h qs) ≡ true
any_parts t h [] e n = e
any_parts t h (a ∷ qs) e n = both (t a) (h a) refl refl (any_parts t h qs)
  where
    both : (v w : Bool) → t a ≡ v → h a ≡ w
        → (list_any t qs ≡ true → list_any t (filter (λ a. not (h a)) qs) ≡ false
        → list_any t (filter h qs) ≡ true) → list_any t (filter h (a ∷ qs)) ≡ true
    both true true d g r = rw g (or_left (t a) (list_any t (filter h qs)) d)
    both true false d g r = absurd
        (let q : (true || list_any t (filter (λ a. not (h a)) qs)) ≡ false = rw (g, d) at n in cc)
    both false true d g r = let e2 : list_any t qs ≡ true = rw d at e in
        let n2 : list_any t (filter (λ a. not (h a)) qs) ≡ false = rw g at n in
        rw g (or_right (t a) (list_any t (filter h qs)) (r e2 n2))
    both false false d g r = let e2 : list_any t qs ≡ true = rw d at e in
        let n2 : (false || list_any t (filter (λ a. not (h a)) qs)) ≡ false = rw (g, d) at n in
        rw g (r e2 n2)

pub frontier_parts : (x : Identity) (h : Accepted → Bool) (qs : List Accepted)
    → frontier x qs ≡ max (frontier x (filter (λ a. not (h a)) qs)) (frontier x (filter h qs))
frontier_parts x h [] = refl
frontier_parts x h (a ∷ qs) = both (is_of x a) (h a) refl refl (frontier_parts x h qs)
  where
    both : (v w : Bool) → is_of x a ≡ v → h a ≡ w
        → frontier x qs ≡ max (frontier x (filter (λ a. not (h a)) qs)) (frontier x (filter h qs))
        → frontier x (a ∷ qs) ≡ max (frontier x (filter (λ a. not (h a)) (a ∷ qs)))
        (frontier x (filter h (a ∷ qs)))
    both true true d g r = rw (g, d) (omega (arith, r))
    both true false d g r = rw (g, d) (omega (arith, r))
    both false true d g r = rw (g, d) r
    both false false d g r = rw (g, d) r

-- who sent all points of a series owns it
owner_all : (x : Identity) (s : List ℕ) (qs : List Accepted)
    → list_all (is_by_or_other x s) qs ≡ true → list_any (is_of x) qs ≡ true → owner x qs ≡ s
owner_all x s [] h k = absurd (let q : false ≡ true = k in cc)
owner_all x s (a ∷ qs) h k = both (is_of x a) refl (owner_all x s qs l.1)
  where
    l : (is_by_or_other x s a ≡ true) × (list_all (is_by_or_other x s) qs ≡ true)
    l = and_parts (is_by_or_other x s a) (list_all (is_by_or_other x s) qs) h

    both : (v : Bool) → is_of x a ≡ v → (list_any (is_of x) qs ≡ true → owner x qs ≡ s)
        → owner x (a ∷ qs) ≡ s
    both true e r = let c : (not true || same_sender a.sender s) ≡ true = rw e at l.0 in
        rw e (same_sender-exact a.sender s c)
    both false e r = let k2 : list_any (is_of x) qs ≡ true = rw e at k in rw e (r k2)

owner_there : (x : Identity) (qs : List Accepted) → list_any (is_of x) qs ≡ true
    → list_any (is_by x (owner x qs)) qs ≡ true
owner_there x [] h = h
owner_there x (a ∷ qs) h = both (is_of x a) refl (owner_there x qs)
  where
    found : (v : Bool) → is_of x a ≡ v
        → list_any (is_by x (cond v a.sender (owner x qs))) (a ∷ qs) ≡ true
        → list_any (is_by x (owner x (a ∷ qs))) (a ∷ qs) ≡ true
    found v e k = subst (λ s. list_any (is_by x s) (a ∷ qs) ≡ true)
        (sym (ap (λ u. cond u a.sender (owner x qs)) e)) k

    both : (v : Bool) → is_of x a ≡ v
        → (list_any (is_of x) qs ≡ true → list_any (is_by x (owner x qs)) qs ≡ true)
        → list_any (is_by x (owner x (a ∷ qs))) (a ∷ qs) ≡ true
    both true e r = found true e (or_left (is_by x a.sender a) (list_any (is_by x a.sender) qs)
        (and_from (same_series a.point.series x) (same_sender a.sender a.sender) e
        (same_sender-refl a.sender)))
    both false e r = let k : list_any (is_of x) qs ≡ true = rw e at h in
        found false e (or_right (is_by x (owner x qs) a) (list_any (is_by x (owner x qs)) qs) (r k))

pub all_own : (x : Identity) (qs : List Accepted) → OneOwner qs → list_any (is_of x) qs ≡ true
    → list_all (is_by_or_other x (owner x qs)) qs ≡ true
all_own x qs o h = o.all x (owner x qs) (owner_there x qs h)

pub owner_parts : (x : Identity) (h : Accepted → Bool) (qs : List Accepted) → OneOwner qs
    → owner x qs ≡ cond (list_any (is_of x) (filter (λ a. not (h a)) qs))
    (owner x (filter (λ a. not (h a)) qs)) (owner x (filter h qs))
owner_parts x h qs o =
    both (list_any (is_of x) qs) (list_any (is_of x) (filter (λ a. not (h a)) qs)) refl refl
  where
    both : (v w : Bool) → list_any (is_of x) qs ≡ v
        → list_any (is_of x) (filter (λ a. not (h a)) qs) ≡ w
        → owner x qs ≡ cond (list_any (is_of x) (filter (λ a. not (h a)) qs))
        (owner x (filter (λ a. not (h a)) qs)) (owner x (filter h qs))
    both true true e g = rw g (sym (owner_all x (owner x qs) (filter (λ a. not (h a)) qs)
        (all_filter (is_by_or_other x (owner x qs)) (λ a. not (h a)) qs (all_own x qs o e)) g))
    both true false e g = rw g (sym (owner_all x (owner x qs) (filter h qs)
        (all_filter (is_by_or_other x (owner x qs)) h qs (all_own x qs o e))
        (any_parts (is_of x) h qs e g)))
    both false w e g =
        let first = any_from_filter (is_of x) (λ a. not (h a)) qs e in
        rw first (none_owner x qs e
        ∙ sym (none_owner x (filter h qs) (any_from_filter (is_of x) h qs e)))

-- a series is known where its frontier is not 0
same_known : (x : Identity) (qs rs : List Accepted) → Made qs → Made rs
    → frontier x rs ≡ frontier x qs → list_any (is_of x) rs ≡ list_any (is_of x) qs
same_known x qs rs m n e = both (list_any (is_of x) qs) (list_any (is_of x) rs) refl refl
  where
    both : (v w : Bool) → list_any (is_of x) qs ≡ v → list_any (is_of x) rs ≡ w
        → list_any (is_of x) rs ≡ list_any (is_of x) qs
    both true true d g = g ∙ sym d
    both false false d g = g ∙ sym d
    both true false d g = absurd (omega (arith, e, ends_there x qs m d, none_frontier x rs g))
    both false true d g = absurd (omega (arith, e, ends_there x rs n g, none_frontier x qs d))

pub alike_known : (H K : History) → IsLegal H → IsLegal K → (x : Identity)
    → frontier x (points K) ≡ frontier x (points H)
    → list_any (is_of x) (points K) ≡ list_any (is_of x) (points H)
alike_known H K l m x e = same_known x (points H) (points K) (made_points H l) (made_points K m) e

pub known : (E F : History) → IsLegal E → IsLegal F → Remembers F E → (x : Identity)
    → list_any (is_of x) (points F) ≡ list_any (is_of x) (not_pending E)
known E F l m r x = same_known x (not_pending E) (points F)
    (made_filter is_not_home (points E) (made_points E l)) (made_points F m) (r.frontiers x)

-- turns

-- what may come after qs may come after rs
pub record Clearer (qs rs : List Accepted) : Type 0 where
  pub all : (s : List ℕ) (p : DataPoint) → list_all (λ a. is_clear s p a.point a.sender) qs ≡ true
      → list_all (λ a. is_clear s p a.point a.sender) rs ≡ true

pub clearer_append : (qs rs ts : List Accepted) → Clearer qs rs → Clearer (qs ++ ts) (rs ++ ts)
clearer_append qs rs ts h = record {
  all = λ s p k. all_append (λ a. is_clear s p a.point a.sender) rs ts
      (h.all s p (all_first (λ a. is_clear s p a.point a.sender) qs ts k))
      (all_last (λ a. is_clear s p a.point a.sender) qs ts k);
}

pub turn_clearer : (us qs rs : List Accepted) → Clearer qs rs → are_in_turn qs us ≡ true
    → are_in_turn rs us ≡ true
turn_clearer [] qs rs h k = refl
turn_clearer (a ∷ us) qs rs h k =
    let l = and_parts (list_all (λ q. is_clear a.sender a.point q.point q.sender) qs)
    (are_in_turn (qs ++ a ∷ []) us) k in
    and_from (list_all (λ q. is_clear a.sender a.point q.point q.sender) rs)
    (are_in_turn (rs ++ a ∷ []) us) (h.all a.sender a.point l.0)
    (turn_clearer us (qs ++ a ∷ []) (rs ++ a ∷ []) (clearer_append qs rs (a ∷ []) h) l.1)

pub turn_first : (qs us vs : List Accepted) → are_in_turn qs (us ++ vs) ≡ true
    → are_in_turn qs us ≡ true
turn_first qs [] vs h = refl
turn_first qs (a ∷ us) vs h =
    let l = and_parts (list_all (λ q. is_clear a.sender a.point q.point q.sender) qs)
    (are_in_turn (qs ++ a ∷ []) (us ++ vs)) h in
    and_from (list_all (λ q. is_clear a.sender a.point q.point q.sender) qs)
    (are_in_turn (qs ++ a ∷ []) us) l.0 (turn_first (qs ++ a ∷ []) us vs l.1)

pub turn_last : (qs us vs : List Accepted) → are_in_turn qs (us ++ vs) ≡ true
    → are_in_turn (qs ++ us) vs ≡ true
turn_last qs [] vs h =
    subst (λ (rs : List Accepted). are_in_turn rs vs ≡ true) (sym (append-nil qs)) h
turn_last qs (a ∷ us) vs h =
    let l = and_parts (list_all (λ q. is_clear a.sender a.point q.point q.sender) qs)
    (are_in_turn (qs ++ a ∷ []) (us ++ vs)) h in
    subst (λ (rs : List Accepted). are_in_turn rs vs ≡ true) (append_assoc qs (a ∷ []) us)
    (turn_last (qs ++ a ∷ []) us vs l.1)

pub turn_append : (qs us vs : List Accepted) → are_in_turn qs us ≡ true
    → are_in_turn (qs ++ us) vs ≡ true → are_in_turn qs (us ++ vs) ≡ true
turn_append qs [] vs h k =
    subst (λ (rs : List Accepted). are_in_turn rs vs ≡ true) (append-nil qs) k
turn_append qs (a ∷ us) vs h k =
    let l = and_parts (list_all (λ q. is_clear a.sender a.point q.point q.sender) qs)
    (are_in_turn (qs ++ a ∷ []) us) h in
    and_from (list_all (λ q. is_clear a.sender a.point q.point q.sender) qs)
    (are_in_turn (qs ++ a ∷ []) (us ++ vs)) l.0
    (turn_append (qs ++ a ∷ []) us vs l.1
    (subst (λ (rs : List Accepted). are_in_turn rs vs ≡ true)
    (sym (append_assoc qs (a ∷ []) us)) k))

pub turn_order : (s : List ℕ) (ps : List DataPoint) (qs : List Accepted)
    → are_in_turn qs (map (admitted 0 s) ps) ≡ is_in_order qs s ps
turn_order s [] qs = refl
turn_order s (p ∷ ps) qs = ap (λ v. list_all (λ a. is_clear s p a.point a.sender) qs && v)
    (turn_order s ps (qs ++ admitted 0 s p ∷ []))

pub from_bare : (qs rs : List Accepted) → Clearer (qs ++ map bare rs) (qs ++ rs)
from_bare qs rs = record {
  all = λ s p k. all_append (λ a. is_clear s p a.point a.sender) qs rs
      (all_first (λ a. is_clear s p a.point a.sender) qs (map bare rs) k)
      (sym (all_bare (λ a. is_clear s p a.point a.sender) (λ a. refl) rs)
      ∙ all_last (λ a. is_clear s p a.point a.sender) qs (map bare rs) k);
}

-- what comes after each point of a series comes after its frontier, and is of its owner
pub clear_met : (s : List ℕ) (p : DataPoint) (qs : List Accepted)
    → list_all (λ a. is_clear s p a.point a.sender) qs ≡ true → list_any (is_of p.series) qs ≡ true
    → (same_sender (owner p.series qs) s ≡ true) × (frontier p.series qs ≤ p.span.start)
clear_met s p [] h k = absurd (let q : false ≡ true = k in cc)
clear_met s p (a ∷ qs) h k =
    both (is_of p.series a) (list_any (is_of p.series) qs) refl refl (clear_met s p qs l.1)
  where
    l : (is_clear s p a.point a.sender ≡ true)
        × (list_all (λ a. is_clear s p a.point a.sender) qs ≡ true)
    l = and_parts (is_clear s p a.point a.sender) (list_all (λ a. is_clear s p a.point a.sender) qs)
        h

    met : is_of p.series a ≡ true
        → (same_sender a.sender s ≡ true) × (a.point.span.end ≤ p.span.start)
    met e =
        let c : (not true || (same_sender a.sender s && nat_le a.point.span.end p.span.start))
        ≡ true = rw e at l.0 in
        let d = and_parts (same_sender a.sender s) (nat_le a.point.span.end p.span.start) c in
        (d.0, leb-true a.point.span.end p.span.start d.1)

    both : (v w : Bool) → is_of p.series a ≡ v → list_any (is_of p.series) qs ≡ w
        → (list_any (is_of p.series) qs ≡ true
        → (same_sender (owner p.series qs) s ≡ true) × (frontier p.series qs ≤ p.span.start))
        → (same_sender (owner p.series (a ∷ qs)) s ≡ true)
        × (frontier p.series (a ∷ qs) ≤ p.span.start)
    both true true e g r = let m = met e in let n = r g in rw e (m.0, omega (arith, m.1, n.1))
    both true false e g r = let m = met e in
        rw e (m.0, omega (arith, m.1, none_frontier p.series qs g))
    both false true e g r = rw e (r g)
    both false false e g r = absurd (let q : (false || false) ≡ true = rw (e, g) at k in cc)

pub ends_by_frontier : (x : Identity) (qs : List Accepted) (n : ℕ) → frontier x qs ≤ n
    → list_all (λ a. not (is_of x a) || nat_le a.point.span.end n) qs ≡ true
ends_by_frontier x [] n h = refl
ends_by_frontier x (a ∷ qs) n h = both (is_of x a) refl (ends_by_frontier x qs n)
  where
    both : (v : Bool) → is_of x a ≡ v
        → (frontier x qs ≤ n → list_all (λ a. not (is_of x a) || nat_le a.point.span.end n) qs
        ≡ true) → list_all (λ a. not (is_of x a) || nat_le a.point.span.end n) (a ∷ qs) ≡ true
    both true e r =
        let k : max a.point.span.end (frontier x qs) ≤ n = rw e at h in
        and_from (not (is_of x a) || nat_le a.point.span.end n)
        _ (or_right (not (is_of x a)) (nat_le a.point.span.end n)
        (le-leb a.point.span.end n (omega (arith, k)))) (r (omega (arith, k)))
    both false e r =
        let k : frontier x qs ≤ n = rw e at h in
        and_from (not (is_of x a) || nat_le a.point.span.end n)
        _ (or_left (not (is_of x a)) (nat_le a.point.span.end n) (ap not e)) (r k)

-- where a point's series has the same owner and frontier, the point may come after these if it may
-- come after those
pub clear_known : (qs rs : List Accepted) → OneOwner rs → (s : List ℕ) (p : DataPoint)
    → list_any (is_of p.series) rs ≡ list_any (is_of p.series) qs
    → owner p.series rs ≡ owner p.series qs → frontier p.series rs ≡ frontier p.series qs
    → list_all (λ a. is_clear s p a.point a.sender) qs ≡ true
    → list_all (λ a. is_clear s p a.point a.sender) rs ≡ true
clear_known qs rs o s p w own ends k = both (list_any (is_of p.series) rs) refl
  where
    is_met : (a : Accepted) → is_by_or_other p.series s a ≡ true
        → (not (is_of p.series a) || nat_le a.point.span.end p.span.start) ≡ true
        → is_clear s p a.point a.sender ≡ true
    is_met a h k = parts (same_series a.point.series p.series) (same_sender a.sender s)
        (nat_le a.point.span.end p.span.start) h k
      where
        parts : (u v w : Bool) → (not u || v) ≡ true → (not u || w) ≡ true
            → (not u || (v && w)) ≡ true
        parts true v w h k = and_from v w h k
        parts false v w h k = refl

    both : (v : Bool) → list_any (is_of p.series) rs ≡ v
        → list_all (λ a. is_clear s p a.point a.sender) rs ≡ true
    both false e = all_weaker (λ a. not (is_of p.series a)) (λ a. is_clear s p a.point a.sender)
        (λ a n. or_left (not (is_of p.series a))
        (same_sender a.sender s && nat_le a.point.span.end p.span.start) n) rs
        (any_none (is_of p.series) rs e)
    both true e =
        let met = clear_met s p qs k (sym w ∙ e) in
        let mine : owner p.series rs ≡ s = own ∙ same_sender-exact (owner p.series qs) s met.0 in
        let all_mine : list_all (is_by_or_other p.series s) rs ≡ true =
        subst (λ t. list_all (is_by_or_other p.series t) rs ≡ true) mine
        (all_own p.series rs o e) in
        all_both (is_by_or_other p.series s)
        (λ a. not (is_of p.series a) || nat_le a.point.span.end p.span.start)
        (λ a. is_clear s p a.point a.sender) is_met rs all_mine
        (ends_by_frontier p.series rs p.span.start (omega (arith, ends, met.1)))

pub clearer_known : (qs rs : List Accepted) → OneOwner rs
    → ((x : Identity) → list_any (is_of x) rs ≡ list_any (is_of x) qs)
    → ((x : Identity) → owner x rs ≡ owner x qs)
    → ((x : Identity) → frontier x rs ≡ frontier x qs) → Clearer qs rs
clearer_known qs rs o w own ends =
    record { all = λ s p k. clear_known qs rs o s p (w p.series) (own p.series) (ends p.series) k }

-- there are no more series

all_known : (t : Identity → Bool) (rs : List Accepted)
    → ((y : Identity) → list_any (is_of y) rs ≡ true → t y ≡ true)
    → list_all (λ a. t a.point.series) rs ≡ true
all_known t [] k = refl
all_known t (a ∷ rs) k =
    and_from (t a.point.series) (list_all (λ a. t a.point.series) rs)
    (k a.point.series (or_left (same_series a.point.series a.point.series)
    (list_any (is_of a.point.series) rs) (same_series-refl a.point.series)))
    (all_known t rs (λ y h. k y (or_right (is_of y a) (list_any (is_of y) rs) h)))

pub known_no_other : (qs rs : List Accepted)
    → ((x : Identity) → list_any (is_of x) rs ≡ list_any (is_of x) qs) → NoOther rs qs
known_no_other qs rs e = record {
  all = λ t k. all_known t rs (λ y h. both_at (is_of y) (λ a. t a.point.series) (t y ≡ true)
      (λ a m n. subst (λ z. t z ≡ true) (same_series-exact a.point.series y m) n) qs (sym (e y) ∙ h)
      k);
}
