-- Posts over many books, book by book: what each has of them, and what an undo leaves there.
use Rattle.std.proofs.Common.{◌≡◌, ℕ, Bool, true, false, cond, List, [], ◌∷◌, ◌++◌, map, refl, ap}
use Rattle.std.proofs.Common.{sym, ◌∙◌, subst}
use Rattle.std.specs.List.{filter}
use Rattle.std.proofs.lemmas.Bool.{eq-eqb}
use Rattle.std.proofs.lemmas.List.Elements.{filter-append}
use Rattle.series_id.specs.Identity.{Identity}
use Rattle.metric_events.specs.DataPoint.{DataPoint}
use Rattle.metric_events.specs.History.{History, ◌▸◌}
use Rattle.metric_events.specs.Points.{admitted}
use Rattle.metric_events.specs.Senders.{same_sender}
use Rattle.metric_events.specs.Legal.{IsLegal}
use Rattle.metric_events.specs.Recovery.{bare_points}
use Rattle.metric_events.specs.Strike.{Agree, without_last}
use Rattle.metric_events.specs.Recall.{posted, posts_by, KeepsPosts, part, has_points, parts}
use Rattle.metric_events.specs.declared.accepted.Accepted.{Accepted}
use Rattle.metric_events.specs.declared.batch.Batch.{Batch}
use Rattle.metric_events.specs.declared.event.Event.TheVariants.{Admit, Undo}
use Rattle.metric_events.proofs.Lists.{filter-map, filter-filter}
use Rattle.metric_events.proofs.Striking.{can_be_struck}

-- the points of a part

own_points : (is_own : Identity → Bool) (s : List ℕ) (ps : List DataPoint)
    → filter (λ (a : Accepted). is_own a.point.series) (map (admitted 0 s) ps)
    ≡ map (admitted 0 s) (filter (λ d. is_own d.series) ps)
own_points is_own s [] = refl
own_points is_own s (p ∷ ps) = elim (is_own p.series)
    as (λ v. cond v (admitted 0 s p ∷ filter (λ (a : Accepted). is_own a.point.series)
    (map (admitted 0 s) ps)) (filter (λ (a : Accepted). is_own a.point.series)
    (map (admitted 0 s) ps)) ≡ map (admitted 0 s)
    (cond v (p ∷ filter (λ d. is_own d.series) ps) (filter (λ d. is_own d.series) ps))) [
      | true ↦ ap (λ us. admitted 0 s p ∷ us) (own_points is_own s ps)
      | false ↦ own_points is_own s ps
    ]

-- a post without points brings none
nothing_lost : (s : List ℕ) (ds : List DataPoint) (ps : List Batch)
    → posted (cond (has_points ds) (record { sender = s; points = ds } ∷ ps) ps)
    ≡ map (admitted 0 s) ds ++ posted ps
nothing_lost s [] ps = refl
nothing_lost s (d ∷ ds) ps = refl

pub parts_law : (is_own : Identity → Bool) (ps : List Batch)
    → posted (parts is_own ps) ≡ filter (λ a. is_own a.point.series) (posted ps)
parts_law is_own [] = refl
parts_law is_own (p ∷ ps) =
    nothing_lost p.sender (filter (λ d. is_own d.series) p.points) (parts is_own ps)
    ∙ (ap (λ us. map (admitted 0 p.sender) (filter (λ d. is_own d.series) p.points) ++ us)
    (parts_law is_own ps)
    ∙ (ap (λ us. us ++ filter (λ (a : Accepted). is_own a.point.series) (posted ps))
    (sym (own_points is_own p.sender p.points))
    ∙ sym (filter-append (λ (a : Accepted). is_own a.point.series) (bare_points p) (posted ps))))

-- the order of parts

parts_by : (is_own : Identity → Bool) (s : List ℕ) (ps : List Batch)
    → posts_by s (parts is_own ps) ≡ parts is_own (posts_by s ps)
parts_by is_own s ps =
    filter-filter (λ (p : Batch). same_sender p.sender s) (λ p. has_points p.points)
    (map (part is_own) ps)
    ∙ ap (filter (λ (p : Batch). has_points p.points))
    (filter-map (λ (p : Batch). same_sender p.sender s) (part is_own) (λ p. refl) ps)

pub parts_order_law : (is_own : Identity → Bool) (ps rs : List Batch) → KeepsPosts ps rs
    → KeepsPosts (parts is_own ps) (parts is_own rs)
parts_order_law is_own ps rs k = record {
  each =
      λ s. parts_by is_own s rs ∙ (ap (parts is_own) (k.each s) ∙ sym (parts_by is_own s ps));
}

-- what is taken back at once leaves what was there

pub taken_back_law : (E : History) (b : ℕ) (body : Batch) → IsLegal (E ▸ Admit b body ▸ Undo b)
    → Agree (E ▸ Admit b body ▸ Undo b) E
taken_back_law E b body l = subst (λ (F : History). Agree (E ▸ Admit b body ▸ Undo b) F)
    (ap (λ v. cond v E (without_last (Undo b) E ▸ Admit b body)) (eq-eqb b b refl))
    (can_be_struck (E ▸ Admit b body ▸ Undo b) refl l).agree
