-- Posts in another order that is the same for each sender: it is the same within each series, as a
-- series has one sender.
use Rattle.std.proofs.Common.{◌≡◌, ℕ, Bool, true, false, cond, not, ◌||◌, List, [], ◌∷◌, ◌++◌, map}
use Rattle.std.proofs.Common.{refl, ap, sym, ◌∙◌}
use Rattle.std.specs.List.{list_all, filter}
use Rattle.std.proofs.lemmas.Bool.{and_parts, and_from}
use Rattle.std.proofs.lemmas.List.{append-nil}
use Rattle.std.proofs.lemmas.List.Elements.{filter-append}
use Rattle.series_id.specs.Identity.{Identity}
use Rattle.metric_events.specs.DataPoint.{DataPoint}
use Rattle.metric_events.specs.History.{History, Start}
use Rattle.metric_events.specs.Points.{points, is_home, admitted}
use Rattle.metric_events.specs.Senders.{same_sender}
use Rattle.metric_events.specs.Series.{is_of, of_series, owner}
use Rattle.metric_events.specs.Standing.{stands}
use Rattle.metric_events.specs.Legal.{IsLegal, is_held}
use Rattle.metric_events.specs.Recovery.{bare, homes, pending, Numbered, all_points, bare_points}
use Rattle.metric_events.specs.Congruence.{AreInterleaved, AreRounds}
use Rattle.metric_events.specs.Recall.{unfolded, sent_by, KeepsSenders, posted, bodies, posts_by}
use Rattle.metric_events.specs.Recall.{KeepsPosts}
use Rattle.metric_events.specs.declared.accepted.Accepted.{Accepted}
use Rattle.metric_events.specs.declared.batch.Batch.{Batch}
use Rattle.metric_events.proofs.Lists.{any_map, all_filter, all_weaker, filter_all, filter_keeps}
use Rattle.metric_events.proofs.Lists.{filter_none, filter-filter}
use Rattle.metric_events.proofs.Senders.{same_sender-exact, same_sender-refl}
use Rattle.metric_events.proofs.Owners.{OneOwner, one_owner, owner_filter, is_by, is_by_or_other}
use Rattle.metric_events.proofs.Bare.{all_bare}
use Rattle.metric_events.proofs.Recalling.{life_owner}
use Rattle.metric_events.proofs.Congruence.{own_or_other}

-- what holds of the points of each sender holds of all
all_senders : (t : Accepted → Bool) (rs : List Accepted)
    → ((s : List ℕ) → list_all t (sent_by s rs) ≡ true) → list_all t rs ≡ true
all_senders t [] h = refl
all_senders t (a ∷ rs) h = and_from (t a) (list_all t rs)
    (and_parts (t a) (list_all t (sent_by a.sender rs))
    (sym (ap (λ v. list_all t (cond v (a ∷ sent_by a.sender rs) (sent_by a.sender rs)))
    (same_sender-refl a.sender)) ∙ h a.sender)).0
    (all_senders t rs (λ s. rest s (same_sender a.sender s) refl))
  where
    rest : (s : List ℕ) (v : Bool) → same_sender a.sender s ≡ v → list_all t (sent_by s rs) ≡ true
    rest s true e = (and_parts (t a) (list_all t (sent_by s rs))
        (sym (ap (λ v. list_all t (cond v (a ∷ sent_by s rs) (sent_by s rs))) e) ∙ h s)).1
    rest s false e = sym (ap (λ v. list_all t (cond v (a ∷ sent_by s rs) (sent_by s rs))) e) ∙ h s

-- where all points of a series are of a sender, they are those of this sender
own_sent : (x : Identity) (s : List ℕ) (us : List Accepted)
    → list_all (is_by_or_other x s) us ≡ true → of_series x (sent_by s us) ≡ of_series x us
own_sent x s [] h = refl
own_sent x s (a ∷ us) h =
    both (is_of x a) (same_sender a.sender s) refl refl l.0 (own_sent x s us l.1)
  where
    l : (is_by_or_other x s a ≡ true) × (list_all (is_by_or_other x s) us ≡ true)
    l = and_parts (is_by_or_other x s a) (list_all (is_by_or_other x s) us) h

    both : (v w : Bool) → is_of x a ≡ v → same_sender a.sender s ≡ w → is_by_or_other x s a ≡ true
        → of_series x (sent_by s us) ≡ of_series x us
        → of_series x (sent_by s (a ∷ us)) ≡ of_series x (a ∷ us)
    both true true e g k r = rw (e, g) (rw e (ap (λ vs. a ∷ vs) r))
    both true false e g k r = absurd (let q : (not true || false) ≡ true = rw (e, g) at k in cc)
    both false true e g k r = rw (e, g) (rw e r)
    both false false e g k r = rw (e, g) r

by_sender : (qs rs : List Accepted) → OneOwner qs → KeepsSenders qs rs → AreInterleaved qs rs
by_sender qs rs o k = record {
  each = λ x.
      sym (own_sent x (owner x qs) rs (all_senders (is_by_or_other x (owner x qs)) rs
      (λ s. ap (list_all (is_by_or_other x (owner x qs))) (k.each s)
      ∙ all_filter (is_by_or_other x (owner x qs)) (λ a. same_sender a.sender s) qs
      (own_or_other x qs o))))
      ∙ (ap (of_series x) (k.each (owner x qs))
      ∙ own_sent x (owner x qs) qs (own_or_other x qs o));
}

-- what is pending has one owner of each series

owner_homes : (qs : List Accepted) → OneOwner qs → OneOwner (homes qs)
owner_homes qs o = record {
  all = λ x s k. all_bare (is_by_or_other x s) (λ a. refl) (filter (stands is_home) qs)
      ∙ (owner_filter (stands is_home) qs o).all x s
      (sym (any_map (is_by x s) bare (λ a. refl) (filter (stands is_home) qs)) ∙ k);
}

pub senders_law : (E : History) (rs : List Accepted) → IsLegal E → KeepsSenders (pending E) rs
    → AreInterleaved (pending E) rs
senders_law E rs l k = by_sender (pending E) rs (owner_homes (points E) (one_owner E l)) k

pub life_senders_law : (Gs : List History) (rs : List Accepted) → AreRounds Start Gs
    → KeepsSenders (homes (unfolded [] Gs)) rs → AreInterleaved (homes (unfolded [] Gs)) rs
life_senders_law Gs rs r k =
    by_sender (homes (unfolded [] Gs)) rs (owner_homes (unfolded [] Gs) (life_owner Gs r)) k

-- posts

abbrev nothing : List Accepted
nothing = []

own_post : (s t : List ℕ) (ps : List DataPoint)
    → sent_by s (map (admitted 0 t) ps) ≡ cond (same_sender t s) (map (admitted 0 t) ps) []
own_post s t [] = neither (same_sender t s)
  where
    neither : (v : Bool) → nothing ≡ cond v nothing nothing
    neither true = refl
    neither false = refl
own_post s t (p ∷ ps) = both (same_sender t s) refl (own_post s t ps)
  where
    both : (v : Bool) → same_sender t s ≡ v
        → sent_by s (map (admitted 0 t) ps) ≡ cond (same_sender t s) (map (admitted 0 t) ps) []
        → sent_by s (map (admitted 0 t) (p ∷ ps))
        ≡ cond (same_sender t s) (map (admitted 0 t) (p ∷ ps)) []
    both true e r = rw e (ap (λ us. admitted 0 t p ∷ us) (rw e at r))
    both false e r = rw e (rw e at r)

sent_posted : (s : List ℕ) (ps : List Batch) → sent_by s (posted ps) ≡ posted (posts_by s ps)
sent_posted s [] = refl
sent_posted s (p ∷ ps) =
    filter-append (λ (a : Accepted). same_sender a.sender s) (bare_points p) (posted ps)
    ∙ (ap (λ us. us ++ sent_by s (posted ps)) (own_post s p.sender p.points)
    ∙ (ap (λ us. cond (same_sender p.sender s) (bare_points p) [] ++ us) (sent_posted s ps)
    ∙ (elim (same_sender p.sender s) as (λ v. cond v (bare_points p) [] ++ posted (posts_by s ps)
    ≡ posted (cond v (p ∷ posts_by s ps) (posts_by s ps))) [ true ↦ refl | false ↦ refl ])))

all_posted : (ns : List Numbered) → all_points ns ≡ posted (bodies ns)
all_posted [] = refl
all_posted (n ∷ ns) = ap (λ us. bare_points n.body ++ us) (all_posted ns)

pub posts_law : (qs : List Accepted) (ps : List Batch) (ns : List Numbered)
    → KeepsSenders qs (posted ps) → KeepsPosts ps (bodies ns) → KeepsSenders qs (all_points ns)
posts_law qs ps ns h k = record {
  each = λ s. ap (sent_by s) (all_posted ns)
      ∙ (sent_posted s (bodies ns) ∙ (ap posted (k.each s) ∙ (sym (sent_posted s ps) ∙ h.each s)));
}

-- the posts of some senders last
pub last_law : (ps : List Batch) (ss : List (List ℕ))
    → KeepsPosts ps
    (filter (λ p. not (is_held p.sender ss)) ps ++ filter (λ p. is_held p.sender ss) ps)
last_law ps ss = record { each = λ s. both s (is_held s ss) refl }
  where
    split : (s : List ℕ) → posts_by s
        (filter (λ p. not (is_held p.sender ss)) ps ++ filter (λ p. is_held p.sender ss) ps)
        ≡ filter (λ (p : Batch). not (is_held p.sender ss)) (posts_by s ps)
        ++ filter (λ (p : Batch). is_held p.sender ss) (posts_by s ps)
    split s =
        filter-append (λ (p : Batch). same_sender p.sender s)
        (filter (λ p. not (is_held p.sender ss)) ps) (filter (λ p. is_held p.sender ss) ps)
        ∙ (ap (λ us. us ++ posts_by s (filter (λ p. is_held p.sender ss) ps))
        (filter-filter (λ (p : Batch). same_sender p.sender s) (λ p. not (is_held p.sender ss))
        ps)
        ∙ ap (λ us. filter (λ (p : Batch). not (is_held p.sender ss)) (posts_by s ps) ++ us)
        (filter-filter (λ (p : Batch). same_sender p.sender s) (λ p. is_held p.sender ss) ps))

    each_is : (s : List ℕ) (v : Bool) → is_held s ss ≡ v → (u : Bool → Bool) → u v ≡ true
        → list_all (λ (p : Batch). u (is_held p.sender ss)) (posts_by s ps) ≡ true
    each_is s v e u k = all_weaker (λ (p : Batch). same_sender p.sender s)
        (λ p. u (is_held p.sender ss)) (λ p i. ap u
        (ap (λ t. is_held t ss) (same_sender-exact p.sender s i) ∙ e) ∙ k) (posts_by s ps)
        (filter_all (λ (p : Batch). same_sender p.sender s) ps)

    both : (s : List ℕ) (v : Bool) → is_held s ss ≡ v
        → posts_by s (filter (λ p. not (is_held p.sender ss)) ps
        ++ filter (λ p. is_held p.sender ss) ps) ≡ posts_by s ps
    both s true e =
        split s
        ∙ (ap (λ us. us ++ filter (λ (p : Batch). is_held p.sender ss) (posts_by s ps))
        (filter_none (λ (p : Batch). not (is_held p.sender ss)) (posts_by s ps)
        (each_is s true e (λ w. not (not w)) refl))
        ∙ filter_keeps (λ (p : Batch). is_held p.sender ss) (posts_by s ps)
        (each_is s true e (λ w. w) refl))
    both s false e =
        split s
        ∙ (ap (λ us. us ++ filter (λ (p : Batch). is_held p.sender ss) (posts_by s ps))
        (filter_keeps (λ (p : Batch). not (is_held p.sender ss)) (posts_by s ps)
        (each_is s false e not refl))
        ∙ (ap (λ us. posts_by s ps ++ us)
        (filter_none (λ (p : Batch). is_held p.sender ss) (posts_by s ps)
        (each_is s false e not refl))
        ∙ append-nil (posts_by s ps)))
