-- How long a cell's rows are, and that no two of them add up to more than was accepted.
use Rattle.std.proofs.Common.{◌≡◌, ℕ, ◌+◌, ◌-◌, ◌≤◌, List, ◌++◌, filter, length, take, drop, ap}
use Rattle.std.proofs.Common.{◌∙◌, subst, arith}
use Rattle.std.specs.Prelude.{slice_index}
use Rattle.std.proofs.lemmas.List.{length-drop, take_at}
use Rattle.series_id.specs.Identity.{row_length}
use Rattle.metric_events.specs.Points.{is_acknowledged, is_dropped}
use Rattle.metric_events.specs.Rows.{add_rows}
use Rattle.metric_events.specs.Series.{row_sum}
use Rattle.metric_events.specs.Standing.{stands}
use Rattle.metric_events.specs.declared.accepted.Accepted.{Accepted}
use Rattle.metric_events.proofs.Sums.{row_sum-append, row_sum_filter_le, row_le_at, added_at}
use Rattle.series_cell.specs.Cells.{CellView, Stands, AllOwn}
use Rattle.series_cell.specs.declared.batch_span.BatchSpan.{BatchSpan}
use Rattle.series_cell.proofs.Points.{all_own_first, all_own_last, all_own_filter, sum_length}

pub record Sized (c : CellView) : Type 0 where
  pub accepted : length c.accepted ≡ row_length c.id.kind
  pub stored : length c.stored ≡ row_length c.id.kind
  pub in_flight : length c.in_flight ≡ row_length c.id.kind
  pub acknowledged : length c.acknowledged ≡ row_length c.id.kind
  pub dropped : length c.dropped ≡ row_length c.id.kind

pub sized : (c : CellView) (qs : List Accepted) → Stands c qs → Sized c
sized c qs h =
    let all = subst (AllOwn c.owner c.id) h.parts h.own in
    let gone = all_own_first c.owner c.id h.gone (h.away ++ h.home) all in
    let rest = all_own_last c.owner c.id h.gone (h.away ++ h.home) all in
    record {
      accepted = ap length h.accepted ∙ sum_length c.owner c.id qs h.own;
      stored = ap length h.stored
          ∙ sum_length c.owner c.id h.home (all_own_last c.owner c.id h.away h.home rest);
      in_flight = ap length h.in_flight
          ∙ sum_length c.owner c.id h.away (all_own_first c.owner c.id h.away h.home rest);
      acknowledged = ap length h.acknowledged
          ∙ sum_length c.owner c.id (filter (stands is_acknowledged) h.gone)
          (all_own_filter c.owner c.id (stands is_acknowledged) h.gone gone);
      dropped = ap length h.dropped ∙ sum_length c.owner c.id (filter (stands is_dropped) h.gone)
          (all_own_filter c.owner c.id (stands is_dropped) h.gone gone);
    }

pub record Within (c : CellView) (k : ℕ) : Type 0 where
  pub stored : slice_index c.stored k + slice_index c.in_flight k ≤ slice_index c.accepted k
  pub acknowledged : slice_index c.acknowledged k + slice_index c.in_flight k
      ≤ slice_index c.accepted k
  pub dropped : slice_index c.dropped k + slice_index c.in_flight k ≤ slice_index c.accepted k

pub within : (c : CellView) (qs : List Accepted) (k : ℕ) → Stands c qs → Within c k
within c qs k h =
    let n = row_length c.id.kind in
    let all : slice_index c.accepted k
    ≡ slice_index (row_sum n h.gone) k
    + (slice_index (row_sum n h.away) k + slice_index (row_sum n h.home) k) =
    ap (λ r. slice_index r k) (h.accepted
    ∙ (ap (row_sum n) h.parts ∙ (row_sum-append n h.gone (h.away ++ h.home)
    ∙ ap (add_rows (row_sum n h.gone)) (row_sum-append n h.away h.home))))
    ∙ (added_at (row_sum n h.gone) (add_rows (row_sum n h.away) (row_sum n h.home)) k
    ∙ ap (λ m. slice_index (row_sum n h.gone) k + m)
    (added_at (row_sum n h.away) (row_sum n h.home) k)) in
    let a : slice_index (row_sum n (filter (stands is_acknowledged) h.gone)) k
    ≤ slice_index (row_sum n h.gone) k =
    row_le_at _ _ k (row_sum_filter_le n (stands is_acknowledged) h.gone) in
    let d : slice_index (row_sum n (filter (stands is_dropped) h.gone)) k
    ≤ slice_index (row_sum n h.gone) k =
    row_le_at _ _ k (row_sum_filter_le n (stands is_dropped) h.gone) in
    let es : slice_index c.stored k ≡ slice_index (row_sum n h.home) k =
    ap (λ r. slice_index r k) h.stored in
    let ef : slice_index c.in_flight k ≡ slice_index (row_sum n h.away) k =
    ap (λ r. slice_index r k) h.in_flight in
    let ea : slice_index c.acknowledged k
    ≡ slice_index (row_sum n (filter (stands is_acknowledged) h.gone)) k =
    ap (λ r. slice_index r k) h.acknowledged in
    let ed : slice_index c.dropped k ≡ slice_index (row_sum n (filter (stands is_dropped) h.gone))
    k = ap (λ r. slice_index r k) h.dropped in
    record {
      stored = omega (arith, all, es, ef);
      acknowledged = omega (arith, all, ef, ea, a);
      dropped = omega (arith, all, ef, ed, d);
    }

-- the first spans taken out
pub cut_off : (ms rs ts : List BatchSpan) (k n : ℕ) → rs ≡ drop k ms ++ take k ms → ts ≡ take n rs
    → n ≡ length ms - k → ts ≡ drop k ms
cut_off ms rs ts k n er et en =
    et ∙ (ap (take n) er ∙ take_at (drop k ms) (take k ms) n (omega (arith, en, length-drop k ms)))
