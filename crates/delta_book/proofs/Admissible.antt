-- Where a batch may be admitted, nothing refuses it.
use Rattle.std.proofs.Common.{◌≡◌, ℕ, ◌+◌, ◌≤◌, Bool, true, false, cond, not, ◌&&◌, ◌||◌, List, []}
use Rattle.std.proofs.Common.{◌∷◌, ◌++◌, map, length, max, refl, sym, ◌∙◌, arith, None}
use Rattle.std.specs.Prelude.{nat_lt, nat_le}
use Rattle.std.specs.List.{list_all}
use Rattle.std.proofs.lemmas.Bool.{and_parts, le-ltb, lt-ltb, leb-true, le-leb}
use Rattle.metric_events.specs.DataPoint.{DataPoint}
use Rattle.metric_events.specs.History.{History, entries}
use Rattle.metric_events.specs.Points.{points, admitted}
use Rattle.metric_events.specs.Running.{open_batches, owed}
use Rattle.metric_events.specs.Senders.{same_sender}
use Rattle.metric_events.specs.Series.{is_of, frontier, series_count}
use Rattle.metric_events.specs.Legal.{MayAdmit, is_in_order, is_clear, is_too_large}
use Rattle.metric_events.specs.declared.limits.TheConstants.{MAX_OPEN, MAX_ENTRIES, MAX_SERIES}
use Rattle.metric_events.specs.declared.accepted.Accepted.{Accepted}
use Rattle.metric_events.specs.declared.batch.Batch.{Batch}
use Rattle.delta_book.specs.Refusals.{has_other_writer, point_fault, has_room, admit_refusal}
use Rattle.delta_book.proofs.AnyBatch.{same_count, same_large}

-- a point that is clear of one finds no other writer in it, and starts at its end or later
clear_parts : (v w : Bool) (end start : ℕ) → (not v || (w && nat_le end start)) ≡ true
    → ((v && not w) ≡ false) × (v ≡ true → end ≤ start)
clear_parts true true end start h = (refl, λ e. leb-true end start h)
clear_parts true false end start h = cc
clear_parts false w end start h = (refl, λ e. cc)

raised : (v : Bool) (end f start : ℕ) → (v ≡ true → end ≤ start) → f ≤ start
    → cond v (max end f) f ≤ start
raised true end f start h k = omega (arith, h refl)
raised false end f start h k = k

clear_of_all : (s : List ℕ) (p : DataPoint) (qs : List Accepted)
    → list_all (λ a. is_clear s p a.point a.sender) qs ≡ true
    → (has_other_writer qs p.series s ≡ false) × (frontier p.series qs ≤ p.span.start)
clear_of_all s p [] h = (refl, omega arith)
clear_of_all s p (a ∷ qs) h =
    let l = and_parts (is_clear s p a.point a.sender)
    (list_all (λ a. is_clear s p a.point a.sender) qs) h in
    let here = clear_parts (is_of p.series a) (same_sender a.sender s) a.point.span.end p.span.start
    l.0 in
    let rest = clear_of_all s p qs l.1 in (
      rw (here.0, rest.0) refl,
      raised (is_of p.series a) a.point.span.end (frontier p.series qs)
          p.span.start here.1 rest.1,
    )

no_point_fault : (s : List ℕ) (ps : List DataPoint) (i : ℕ) (qs : List Accepted)
    → is_in_order qs s ps ≡ true → point_fault qs s i ps ≡ None
no_point_fault s [] i qs h = refl
no_point_fault s (p ∷ ps) i qs h =
    let l = and_parts (list_all (λ a. is_clear s p a.point a.sender) qs)
    (is_in_order (qs ++ admitted 0 s p ∷ []) s ps) h in
    let c = clear_of_all s p qs l.0 in
    rw (c.0, le-ltb p.span.start (frontier p.series qs) c.1)
    (no_point_fault s ps (i + 1) (qs ++ admitted 0 s p ∷ []) l.1)

pub not_refused : (E : History) (b : ℕ) (body : Batch) → MayAdmit E b body
    → admit_refusal E body ≡ None
not_refused E b body may =
    let qs = points E ++ map (admitted 0 body.sender) body.points in
    let room : has_room E ≡ true = le-leb (entries E + owed E + 2) MAX_ENTRIES may.room in
    let open_ : nat_lt (length (open_batches E)) MAX_OPEN ≡ true =
    lt-ltb (length (open_batches E)) MAX_OPEN may.few_open in
    let few : nat_lt MAX_SERIES (series_count qs) ≡ false =
    le-ltb MAX_SERIES (series_count qs)
    (omega (arith, may.few_series, same_count b 0 body.sender (points E) body.points)) in
    let small : is_too_large qs body.points ≡ false =
    sym (same_large b 0 body.sender (points E) body.points) ∙ may.small in
    rw (
      may.free,
      open_,
      room,
      no_point_fault body.sender body.points 0 (points E) may.in_order,
      few,
      small,
    ) refl
