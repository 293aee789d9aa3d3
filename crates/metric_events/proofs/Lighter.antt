-- What has no more events and no greater sums has room and limits for whatever the other has.
use Rattle.std.proofs.Common.{◌≡◌, ℕ, ◌+◌, ◌≤◌, Bool, true, false, not, List, [], ◌∷◌, map, length}
use Rattle.std.proofs.Common.{refl, ap, sym, ◌∙◌, subst, arith, length-append}
use Rattle.std.proofs.lemmas.List.{length-map}
use Rattle.std.proofs.lemmas.Bool.{or_parts, or_from}
use Rattle.series_id.specs.Identity.{Identity}
use Rattle.metric_events.specs.DataPoint.{DataPoint}
use Rattle.metric_events.specs.Rows.{add_rows, fits}
use Rattle.metric_events.specs.History.{History, Opened, ◌▸◌, ◌then◌, entries}
use Rattle.metric_events.specs.Points.{points, admitted}
use Rattle.metric_events.specs.Running.{open_batches, live_flushes, held_senders}
use Rattle.metric_events.specs.Series.{sum_of}
use Rattle.metric_events.specs.Legal.{IsLegal, Allowed, HasRoom, is_over, is_too_large}
use Rattle.metric_events.specs.Recovery.{IsAtMost}
use Rattle.metric_events.specs.Lasting.{renumbered, renumbered_event, renumbered_flight, numbers}
use Rattle.metric_events.specs.Lasting.{batch_number, flush_number, KeepsApart}
use Rattle.metric_events.specs.Congruence.{StandAlike, IsCalm, EndsOwn, Suits, AllSuit, AreNew}
use Rattle.metric_events.specs.Congruence.{IsLighter}
use Rattle.metric_events.specs.declared.accepted.Accepted.{Accepted}
use Rattle.metric_events.specs.declared.event.Event.{Event}
use Rattle.metric_events.specs.declared.event.Event.TheVariants.{Admit, Take, Quarantine}
use Rattle.metric_events.specs.Recall.{moved, news}
use Rattle.metric_events.proofs.Held.{held_once}
use Rattle.metric_events.proofs.Fits.{fits_le, sum_of-map}
use Rattle.metric_events.proofs.Bare.{sum_append, bare_sum, bare_admitted}
use Rattle.metric_events.proofs.Behind.{behind}
use Rattle.metric_events.proofs.Priming.{moved_sum, more}
use Rattle.metric_events.proofs.Lasting.{apart_last, turned, turned_news, live_same}
use Rattle.metric_events.proofs.Congruence.{Going, parallel, gone, step, ends_before, opened}
use Rattle.metric_events.proofs.Congruence.{open_on, open_parts, once_le}

-- sums

admitted_sum : (x : Identity) (b c : ℕ) (s : List ℕ) (ps : List DataPoint)
    → sum_of x (map (admitted b s) ps) ≡ sum_of x (map (admitted c s) ps)
admitted_sum x b c s ps = sym (bare_sum x (map (admitted b s) ps))
    ∙ (ap (sum_of x) (bare_admitted b s ps ∙ sym (bare_admitted c s ps))
    ∙ bare_sum x (map (admitted c s) ps))

sum_less : (batch flush : ℕ → ℕ) (E F G : History) → IsLighter F E → Going batch flush E F G
    → (x : Identity) → IsAtMost (sum_of x (points (F then renumbered batch flush G)))
    (sum_of x (points (E then G)))
sum_less batch flush E F G i g x =
    subst (λ ws. IsAtMost ws (sum_of x (points (E then G)))) (sym right)
    (subst (λ ws. IsAtMost (add_rows (sum_of x (points F)) (sum_of x (news G))) ws) (sym left)
    (more (sum_of x (points F)) (sum_of x (points E)) (sum_of x (news G)) (i.sums x)))
  where
    left : sum_of x (points (E then G)) ≡ add_rows (sum_of x (points E)) (sum_of x (news G))
    left = ap (sum_of x) (behind E G (parallel batch flush E F G g).own)
        ∙ (sum_append x (moved G (points E)) (news G)
        ∙ ap (λ ws. add_rows ws (sum_of x (news G))) (moved_sum x G (points E)))

    right : sum_of x (points (F then renumbered batch flush G))
        ≡ add_rows (sum_of x (points F)) (sum_of x (news G))
    right =
        ap (sum_of x) (behind F (renumbered batch flush G) (parallel batch flush E F G g).own_too)
        ∙ (sum_append x (moved (renumbered batch flush G) (points F))
        (news (renumbered batch flush G))
        ∙ (ap (λ ws. add_rows ws (sum_of x (news (renumbered batch flush G))))
        (moved_sum x (renumbered batch flush G) (points F))
        ∙ ap (add_rows (sum_of x (points F)))
        (ap (sum_of x) (turned_news batch flush G g.batches g.flushes)
        ∙ sum_of-map x (turned batch flush) (λ a. refl) (news G))))

not_over : (qs rs : List Accepted) (p : DataPoint)
    → ((x : Identity) → IsAtMost (sum_of x rs) (sum_of x qs)) → is_over qs p ≡ false
    → is_over rs p ≡ false
not_over qs rs p h k = ap not (fits_le p.series.kind (sum_of p.series rs) (sum_of p.series qs)
    (h p.series) (positive (fits p.series.kind (sum_of p.series qs)) k))
  where
    positive : (v : Bool) → not v ≡ false → v ≡ true
    positive true e = refl
    positive false e = absurd (let q : true ≡ false = e in cc)

not_too_large : (qs rs : List Accepted) (ps : List DataPoint)
    → ((x : Identity) → IsAtMost (sum_of x rs) (sum_of x qs)) → is_too_large qs ps ≡ false
    → is_too_large rs ps ≡ false
not_too_large qs rs [] h k = refl
not_too_large qs rs (p ∷ ps) h k =
    let l = or_parts (is_over qs p) (is_too_large qs ps) k in
    or_from (is_over rs p) (is_too_large rs ps) (not_over qs rs p h l.0)
    (not_too_large qs rs ps h l.1)

-- room

entries_then : (F G : History) → entries (F then G) ≡ entries F + entries G
entries_then F (Opened O) = omega arith
entries_then F (G ▸ e) = omega (arith, entries_then F G)

entries_renumbered : (batch flush : ℕ → ℕ) (G : History)
    → entries (renumbered batch flush G) ≡ entries G
entries_renumbered batch flush (Opened O) = refl
entries_renumbered batch flush (G ▸ e) = omega (arith, entries_renumbered batch flush G)

room_on : (batch flush : ℕ → ℕ) (E F G : History) → IsLighter F E → Going batch flush E F G
    → HasRoom (E then G) → HasRoom (F then renumbered batch flush G)
room_on batch flush E F G i g r = omega (
  arith,
  r,
  i.entries,
  entries_then E G,
  entries_then F (renumbered batch flush G),
  entries_renumbered batch flush G,
  lives,
  opens,
  helds,
)
  where
    lives : length (live_flushes (F then renumbered batch flush G))
        ≡ length (live_flushes (E then G))
    lives = ap length (live_same batch flush E F G g.still g.calm_too.live g.flushes)
        ∙ length-map (live_flushes (E then G)) (renumbered_flight flush)

    opens : length (open_batches (F then renumbered batch flush G))
        ≤ length (open_batches (E then G))
    opens = omega (
      arith,
      ap length (open_on batch flush F G g.calm_too.batches g.batches),
      length-map (opened G) batch,
      ap length (open_parts E G g.ends),
      length-append
          (open_batches E) (opened G),
    )

    helds : length (held_senders (F then renumbered batch flush G))
        ≤ length (held_senders (E then G))
    helds = once_le (held_senders (F then renumbered batch flush G)) (held_senders (E then G))
        (held_once (F then renumbered batch flush G) g.legal_too)
        (λ t j. sym ((gone batch flush E F G g).held t) ∙ j)

-- so each event suits

suits_on : (batch flush : ℕ → ℕ) (E F G : History) (e : Event) → IsLighter F E
    → Going batch flush E F G → AreNew F (renumbered batch flush (G ▸ e)) → Allowed (E then G) e
    → Suits (F then renumbered batch flush G) (renumbered_event batch flush e)
suits_on batch flush E F G (Admit b body) i g n a = (
  n.0,
  room_on batch flush E F G i g a.room,
  not_too_large (points ((E then G) ▸ Admit b body))
      (points ((F then renumbered batch flush G) ▸ Admit (batch b) body)) body.points less
      a.small,
)
  where
    less : (x : Identity) → IsAtMost (sum_of x
        (points ((F then renumbered batch flush G) ▸ Admit (batch b) body)))
        (sum_of x (points ((E then G) ▸ Admit b body)))
    less x =
        subst (λ ws. IsAtMost ws (sum_of x (points ((E then G) ▸ Admit b body))))
        (sym (sum_append x (points (F then renumbered batch flush G))
        (map (admitted (batch b) body.sender) body.points)
        ∙ ap (add_rows (sum_of x (points (F then renumbered batch flush G))))
        (admitted_sum x (batch b) b body.sender body.points)))
        (subst (λ ws. IsAtMost (add_rows (sum_of x (points (F then renumbered batch flush G)))
        (sum_of x (map (admitted b body.sender) body.points))) ws)
        (sym (sum_append x (points (E then G)) (map (admitted b body.sender) body.points)))
        (more (sum_of x (points (F then renumbered batch flush G))) (sum_of x (points (E then G)))
        (sum_of x (map (admitted b body.sender) body.points))
        (sum_less batch flush E F G i g x)))
suits_on batch flush E F G (Take f series) i g n a = (n.0, room_on batch flush E F G i g a.room)
suits_on batch flush E F G (Quarantine s) i g n a = room_on batch flush E F G i g a.room
suits_on batch flush E F G e i g n a = tt

new_before : (F G : History) (e : Event) → AreNew F (G ▸ e) → AreNew F G
new_before F G (Admit b body) n = n.1
new_before F G (Take f series) n = n.1
new_before F G e n = n

pub lighter_law : (E F G : History) (batch flush : ℕ → ℕ) → StandAlike E F → IsLighter F E
    → live_flushes E ≡ [] → EndsOwn E G → IsCalm F → IsLegal F
    → KeepsApart batch (numbers batch_number G) → KeepsApart flush (numbers flush_number G)
    → IsLegal (E then G) → AreNew F (renumbered batch flush G)
    → IsLegal (F then renumbered batch flush G) × AllSuit F (renumbered batch flush G)
lighter_law E F (Opened O) batch flush h i c n d m j k l s = (m, tt)
lighter_law E F (G ▸ e) batch flush h i c n d m j k l s =
    let first = lighter_law E F G batch flush h i c (ends_before E G e n) d m
    (apart_last batch (batch_number e) (numbers batch_number G) j)
    (apart_last flush (flush_number e) (numbers flush_number G) k) l.0
    (new_before F (renumbered batch flush G) (renumbered_event batch flush e) s) in
    let g : Going batch flush E F G =
    record {
      alike = h;
      still = c;
      ends = ends_before E G e n;
      calm_too = d;
      batches =
          apart_last batch (batch_number e) (numbers batch_number G) j;
      flushes =
          apart_last flush (flush_number e) (numbers flush_number G) k;
      legal =
          l.0;
      legal_too = first.0;
    } in
    let suits = suits_on batch flush E F G e i g s l.1 in
    ((first.0, step batch flush E F G e j n g l.1 suits), (first.1, suits))
