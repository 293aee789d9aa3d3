-- How a fresh history comes to know series: by one point of each, without any amount.
use Rattle.std.specs.Prelude.{◌≡◌, ℕ, pos, true, ◌+◌, ◌-◌, ◌<◌, ◌≤◌, ◌^◌, List, [], ◌∷◌, map}
use Rattle.std.specs.Prelude.{length, if◌then◌else◌, Some}
use Rattle.series_id.specs.Identity.{Identity, IsIdentity}
use Rattle.series_id.specs.Order.{same_series}
use Rattle.series_id.specs.declared.kinds.Kind.{Kind}
use Rattle.series_id.specs.declared.kinds.Kind.TheVariants.{Sum, Histogram}
use Rattle.metric_events.specs.Rows.{sum_row, histogram_row, zeros}
use Rattle.metric_events.specs.DataPoint.{DataPoint}
use Rattle.metric_events.specs.History.{History, Opened, ◌▸◌, ◌then◌}
use Rattle.metric_events.specs.Points.{points, admitted}
use Rattle.metric_events.specs.Series.{owner, frontier}
use Rattle.metric_events.specs.Legal.{IsLegal, are_distinct}
use Rattle.metric_events.specs.Recovery.{IsAtRest, FlushesNothing, pending}
use Rattle.metric_events.specs.declared.accepted.Accepted.{Accepted}
use Rattle.metric_events.specs.declared.batch.Batch.{Batch}
use Rattle.metric_events.specs.declared.event.Event.TheVariants.{Admit, Undo}

-- a series, with the owner and the frontier that it is to have
pub record Known : Type 0 where
  pub series : Identity
  pub owner : List ℕ
  pub frontier : ℕ

-- the frontier is a time of 64 bits, at 2 or later
pub record IsKnown (k : Known) : Type 0 where
  pub named : IsIdentity k.series
  pub late : 2 ≤ k.frontier
  pub fits : k.frontier < 2 ^ 64

-- the row of a point without any amount
abbrev pub zero_row : Kind → List ℕ
zero_row (Sum monotonic) = sum_row (pos 0)
zero_row (Histogram bounds) = histogram_row (Some 0) (zeros (length bounds + 1))

-- such a point, which ends at the frontier
abbrev pub zero_point : Known → DataPoint
zero_point k = record {
  series = k.series;
  span = record { start = k.frontier - 1; end = k.frontier };
  row = zero_row k.series.kind;
}

-- a batch of the owner with this point, and the points of such batches
abbrev pub primer : Known → Batch
primer k = record { sender = k.owner; points = zero_point k ∷ [] }

abbrev pub primer_point : Known → Accepted
primer_point k = admitted 0 k.owner (zero_point k)

abbrev pub primer_points : List Known → List Accepted
primer_points ks = map primer_point ks

abbrev pub all_known : List Known → List Identity
all_known ks = map (λ k. k.series) ks

-- F is at rest, without a point. After it no flush is taken or ended, and what is pending is one
-- such point of each of these series, which are distinct
pub record Primes (F S : History) (ks : List Known) : Type 0 where
  pub rest : IsAtRest F
  pub empty : points F ≡ []
  pub still : FlushesNothing S
  pub legal : IsLegal (F then S)
  pub pends : pending (F then S) ≡ primer_points ks
  pub distinct : are_distinct (all_known ks) ≡ true

-- the owner and the frontier of a series among these: none and 0 if it is none of them
abbrev pub owner_among : Identity → List Known → List ℕ
owner_among x [] = []
owner_among x (k ∷ ks) = if same_series k.series x then k.owner else owner_among x ks

abbrev pub frontier_among : Identity → List Known → ℕ
frontier_among x [] = 0
frontier_among x (k ∷ ks) = if same_series k.series x then k.frontier else frontier_among x ks

-- exactly these series are known, with these owners and frontiers
pub record KnowsExactly (ks : List Known) (E : History) : Type 0 where
  pub owners : (x : Identity) → owner x (points E) ≡ owner_among x ks
  pub frontiers : (x : Identity) → frontier x (points E) ≡ frontier_among x ks

-- no batch is admitted or undone; anything else may happen
abbrev pub AdmitsNothing : History → Type 0
AdmitsNothing (Opened O) = Unit {0}
AdmitsNothing (G ▸ Admit b body) = ⊥
AdmitsNothing (G ▸ Undo b) = ⊥
AdmitsNothing (G ▸ e) = AdmitsNothing G
