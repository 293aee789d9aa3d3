-- The points of a history that goes on: those that were there, as they were moved since, and those
-- of the batches that came.
use Rattle.std.proofs.Common.{◌≡◌, ℕ, ◌==◌, true, false, not, List, [], ◌∷◌, ◌++◌, map, refl, ap}
use Rattle.std.proofs.Common.{sym, ◌∙◌, inl, inr, subst, append_assoc}
use Rattle.std.specs.List.{list_all, filter}
use Rattle.std.proofs.lemmas.Bool.{eqb-true}
use Rattle.std.proofs.lemmas.List.{append-nil, map-append}
use Rattle.std.proofs.lemmas.List.Elements.{filter-append}
use Rattle.series_id.specs.Identity.{Identity}
use Rattle.metric_events.specs.DataPoint.{DataPoint}
use Rattle.metric_events.specs.History.{History, Opened, ◌▸◌, ◌then◌, IsNewBatch}
use Rattle.metric_events.specs.Points.{points, is_home, taken, landed, admitted, is_of_other_batch}
use Rattle.metric_events.specs.Running.{open_batches, live_flushes, is_another}
use Rattle.metric_events.specs.Legal.{IsLegal, is_open}
use Rattle.metric_events.specs.Recovery.{FlushesNothing}
use Rattle.metric_events.specs.declared.accepted.Accepted.{Accepted}
use Rattle.metric_events.specs.declared.place.Place.{Place}
use Rattle.metric_events.specs.declared.place.Place.TheVariants.{Home, Acknowledged, Dropped}
use Rattle.metric_events.specs.declared.event.Event.TheVariants.{Admit, Undo, Confirm, Take, Settle}
use Rattle.metric_events.specs.declared.event.Event.TheVariants.{Drop, GiveBack, Quarantine, Lift}
use Rattle.metric_events.specs.Recall.{moved, news}
use Rattle.metric_events.proofs.Lists.{all_append, all_filter, any_split, any_filter, filter_keeps}
use Rattle.metric_events.proofs.Invariants.{all_taken, all_landed, new_points}

-- what taking and landing keep
pub moved_keeps : (P : List Accepted → Type 0)
    → ((f : ℕ) (series : List Identity) (us : List Accepted) → P us → P (map (taken f series) us))
    → ((f : ℕ) (q : Place) (us : List Accepted) → P us → P (map (landed f q) us))
    → (G : History) (qs : List Accepted) → P qs → P (moved G qs)
moved_keeps P t l (Opened O) qs h = h
moved_keeps P t l (G ▸ Take f series) qs h = t f series (moved G qs) (moved_keeps P t l G qs h)
moved_keeps P t l (G ▸ Settle f) qs h = l f Acknowledged (moved G qs) (moved_keeps P t l G qs h)
moved_keeps P t l (G ▸ Drop f) qs h = l f Dropped (moved G qs) (moved_keeps P t l G qs h)
moved_keeps P t l (G ▸ GiveBack f) qs h = l f Home (moved G qs) (moved_keeps P t l G qs h)
moved_keeps P t l (G ▸ e) qs h = moved_keeps P t l G qs h

-- each batch that G undoes is new after H
abbrev pub UndoesOwn : History → History → Type 0
UndoesOwn H (Opened O) = Unit {0}
UndoesOwn H (G ▸ Undo b) = IsNewBatch b H × UndoesOwn H G
UndoesOwn H (G ▸ e) = UndoesOwn H G

pub still_new : (H G : History) (b : ℕ) → IsNewBatch b (H then G) → IsNewBatch b H
still_new H (Opened O) b h = h
still_new H (G ▸ Admit c body) b h = still_new H G b h.1
still_new H (G ▸ e) b h = still_new H G b h

pub open_own : (H G : History) → open_batches H ≡ [] → IsLegal (H then G) → (b : ℕ)
    → is_open b (open_batches (H then G)) ≡ true → IsNewBatch b H
open_own H (Opened O) e l b h = absurd (let q : false ≡ true = rw e at h in cc)
open_own H (G ▸ Admit c body) e l b h =
    elim (any_split (λ d. d == b) (open_batches (H then G)) c h) [
      | inl n ↦ open_own H G e l.0 b n
      | inr n ↦ subst (λ i. IsNewBatch i H) (eqb-true c b n) (still_new H G c l.1.fresh)
    ]
open_own H (G ▸ Undo c) e l b h =
    open_own H G e l.0 b (any_filter (λ d. d == b) (is_another c) (open_batches (H then G)) h)
open_own H (G ▸ Confirm c) e l b h =
    open_own H G e l.0 b (any_filter (λ d. d == b) (is_another c) (open_batches (H then G)) h)
open_own H (G ▸ f) e l b h = open_own H G e l.0 b h

pub undoes_own : (H G : History) → open_batches H ≡ [] → IsLegal (H then G) → UndoesOwn H G
undoes_own H (Opened O) e l = tt
undoes_own H (G ▸ Undo b) e l = (open_own H G e l.0 b l.1.opened, undoes_own H G e l.0)
undoes_own H (G ▸ f) e l = undoes_own H G e l.0

pub other_moved : (b : ℕ) (G : History) (qs : List Accepted)
    → list_all (is_of_other_batch b) qs ≡ true → list_all (is_of_other_batch b) (moved G qs) ≡ true
other_moved b G qs h = moved_keeps (λ us. list_all (is_of_other_batch b) us ≡ true)
    (all_taken (λ p c s. not (c == b))) (all_landed (λ p c s. not (c == b))) G qs h

pub behind : (H G : History) → UndoesOwn H G → points (H then G) ≡ moved G (points H) ++ news G
behind H (Opened O) u = sym (append-nil (points H))
behind H (G ▸ Admit b body) u = ap (λ us. us ++ map (admitted b body.sender) body.points)
    (behind H G u)
    ∙ append_assoc (moved G (points H)) (news G) (map (admitted b body.sender) body.points)
behind H (G ▸ Undo b) u =
    ap (filter (is_of_other_batch b)) (behind H G u.1)
    ∙ (filter-append (is_of_other_batch b) (moved G (points H)) (news G)
    ∙ ap (λ us. us ++ filter (is_of_other_batch b) (news G))
    (filter_keeps (is_of_other_batch b) (moved G (points H))
    (other_moved b G (points H) (new_points b H u.0))))
behind H (G ▸ Take f series) u = ap (map (taken f series)) (behind H G u)
    ∙ map-append (taken f series) (moved G (points H)) (news G)
behind H (G ▸ Settle f) u = ap (map (landed f Acknowledged)) (behind H G u)
    ∙ map-append (landed f Acknowledged) (moved G (points H)) (news G)
behind H (G ▸ Drop f) u = ap (map (landed f Dropped)) (behind H G u)
    ∙ map-append (landed f Dropped) (moved G (points H)) (news G)
behind H (G ▸ GiveBack f) u = ap (map (landed f Home)) (behind H G u)
    ∙ map-append (landed f Home) (moved G (points H)) (news G)
behind H (G ▸ e) u = behind H G u

-- where no flush is taken or ended, nothing moves, and what is new is pending

unmoved : (S : History) (qs : List Accepted) → FlushesNothing S → moved S qs ≡ qs
unmoved (Opened O) qs n = refl
unmoved (S ▸ Admit b body) qs n = unmoved S qs n
unmoved (S ▸ Undo b) qs n = unmoved S qs n
unmoved (S ▸ Confirm b) qs n = unmoved S qs n
unmoved (S ▸ Quarantine s) qs n = unmoved S qs n
unmoved (S ▸ Lift s) qs n = unmoved S qs n
unmoved (S ▸ e) qs n = absurd n

pub only_behind : (F S : History) → open_batches F ≡ [] → FlushesNothing S → IsLegal (F then S)
    → points (F then S) ≡ points F ++ news S
only_behind F S o n l =
    behind F S (undoes_own F S o l) ∙ ap (λ us. us ++ news S) (unmoved S (points F) n)

pub home_admitted : (n : ℕ) (s : List ℕ) (ps : List DataPoint)
    → list_all (λ a. is_home a.place) (map (admitted n s) ps) ≡ true
home_admitted n s [] = refl
home_admitted n s (p ∷ ps) = home_admitted n s ps

pub news_home : (S : History) → FlushesNothing S → list_all (λ a. is_home a.place) (news S) ≡ true
news_home (Opened O) n = refl
news_home (S ▸ Admit b body) n = all_append (λ a. is_home a.place) (news S)
    (map (admitted b body.sender) body.points) (news_home S n)
    (home_admitted b body.sender body.points)
news_home (S ▸ Undo b) n =
    all_filter (λ a. is_home a.place) (is_of_other_batch b) (news S) (news_home S n)
news_home (S ▸ Confirm b) n = news_home S n
news_home (S ▸ Quarantine s) n = news_home S n
news_home (S ▸ Lift s) n = news_home S n
news_home (S ▸ e) n = absurd n

pub live_then : (E R : History) → FlushesNothing R → live_flushes (E then R) ≡ live_flushes E
live_then E (Opened O) n = refl
live_then E (R ▸ Admit b body) n = live_then E R n
live_then E (R ▸ Undo b) n = live_then E R n
live_then E (R ▸ Confirm b) n = live_then E R n
live_then E (R ▸ Quarantine s) n = live_then E R n
live_then E (R ▸ Lift s) n = live_then E R n
live_then E (R ▸ e) n = absurd n
