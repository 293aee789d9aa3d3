-- Rounds after two histories that stand alike; and what is given back, undone or lifted.
use Rattle.std.proofs.Common.{ℕ, List, [], ◌∷◌, map, refl, ap, ◌∙◌}
use Rattle.metric_events.specs.History.{History, Opened, ◌then◌}
use Rattle.metric_events.specs.Points.{is_home}
use Rattle.metric_events.specs.Series.{owner, frontier, of_series, hull}
use Rattle.metric_events.specs.Standing.{sum_where, stands}
use Rattle.std.specs.List.{filter}
use Rattle.metric_events.specs.Legal.{IsLegal, is_held}
use Rattle.metric_events.specs.Close.{close}
use Rattle.metric_events.specs.Strike.{Agree}
use Rattle.metric_events.specs.Lasting.{renumbered, renumbered_flight, numbers, batch_number}
use Rattle.metric_events.specs.Lasting.{KeepsApart}
use Rattle.metric_events.specs.Congruence.{StandAlike, IsCalm, StandOn, lived, AreRounds}
use Rattle.metric_events.specs.Congruence.{RoundsSuit}
use Rattle.metric_events.proofs.Closing.{closed_is}
use Rattle.metric_events.proofs.Congruence.{congruence_law, ends_calm, none_open_on}
use Rattle.metric_events.proofs.CongruentClose.{both_closed}

calm_on : (E F G : History) (batch flush : ℕ → ℕ) → IsCalm E → IsCalm F
    → KeepsApart batch (numbers batch_number G) → IsCalm (E then G) → StandOn E F G batch flush
    → IsCalm (F then renumbered batch flush G)
calm_on E F G batch flush c d j e h = record {
  batches = none_open_on batch flush E F G c.batches d.batches j e.batches;
  live = h.live ∙ ap (map (renumbered_flight flush)) e.live;
}

pub lives_law : (E F : History) (Gs : List History) (batch flush : ℕ → ℕ) → StandAlike E F
    → IsLegal F → IsCalm E → IsCalm F → AreRounds E Gs → RoundsSuit batch flush F Gs
    → AreRounds F (map (renumbered batch flush) Gs)
    × StandAlike (lived E Gs) (lived F (map (renumbered batch flush) Gs))
lives_law E F [] batch flush h m c d r s = (tt, h)
lives_law E F (G ∷ Gs) batch flush h m c d r s =
    let go = congruence_law E F G batch flush h c.live (ends_calm E G c.batches r.0) d m s.1 s.2 r.0
    s.0 in
    let calm = calm_on E F G batch flush c d s.1 r.1 go.1 in
    let rest = lives_law (Opened (close (E then G)))
    (Opened (close (F then renumbered batch flush G))) Gs batch flush
    (both_closed (E then G) (F then renumbered batch flush G) r.0 go.0 r.1 calm go.1.alike)
    (closed_is (F then renumbered batch flush G) go.0)
    (record { batches = refl; live = refl })
    (record { batches = refl; live = refl }) r.2 s.3 in
    ((go.0, calm, rest.0), rest.1)

-- what agrees stands alike
pub agree_alike : (E F : History) → Agree E F → StandAlike E F
agree_alike E F a = record {
  owners = λ x. ap (owner x) a.points;
  frontiers = λ x. ap (frontier x) a.points;
  sums = λ x. ap (sum_where is_home x) a.points;
  spans = λ x. ap (λ qs. hull (filter (stands is_home) (of_series x qs))) a.points;
  held = λ s. ap (is_held s) a.held;
}
