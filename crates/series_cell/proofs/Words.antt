-- The words of what was accepted have 64 bits.
use Rattle.std.proofs.Common.{◌≡◌, ℕ, ◌+◌, ◌-◌, ◌≤◌, ◌^◌, List, length, refl, ap, arith}
use Rattle.std.specs.Prelude.{slice_index}
use Rattle.bucket_lanes.specs.ByPlace.{Fits}
use Rattle.metric_events.specs.Rows.{add_rows, zeros}
use Rattle.metric_events.specs.declared.accepted.Accepted.{Accepted}
use Rattle.metric_events.proofs.Sums.{added_at, zeros_at, length-add_rows}
use Rattle.series_cell.specs.Cells.{CellView, Stands}
use Rattle.series_cell.specs.inner.CellParts.{AreWords}
use Rattle.series_cell.proofs.Sizes.{sized, within}

pub words_none : (n : ℕ) (zs : List ℕ) → zs ≡ zeros n → AreWords zs
words_none n zs e = λ k b. omega (arith, ap (λ rs. slice_index rs k) e, zeros_at n k)

-- a row was added
pub words_added : (xs ys zs : List ℕ) → length ys ≡ length xs → Fits (2 ^ 64 - 1) xs ys
    → zs ≡ add_rows xs ys → AreWords zs
words_added xs ys zs l h e = λ k b. omega (
  arith,
  h k (omega (arith, b, ap length e, length-add_rows xs ys (length xs) refl l)),
  ap
      (λ rs. slice_index rs k) e,
  added_at xs ys k,
)

-- a row was taken away
pub words_left : (xs ys rest zs : List ℕ) → AreWords xs → xs ≡ add_rows ys rest
    → length rest ≡ length xs → zs ≡ rest → AreWords zs
words_left xs ys rest zs h e l f =
    λ k b. omega (
      arith,
      h k (omega (arith, b, ap length f, l)),
      ap (λ rs. slice_index rs k) f,
      ap
          (λ rs. slice_index rs k) e,
      added_at ys rest k,
    )

-- what is pending is part of it
pub words_stored : (c : CellView) (qs : List Accepted) (zs : List ℕ) → Stands c qs
    → AreWords c.accepted → zs ≡ c.stored → AreWords zs
words_stored c qs zs h w e = λ k b.
    let s = sized c qs h in
    omega (
      arith,
      w k (omega (arith, b, ap length e, s.stored, s.accepted)),
      (within c qs k h).stored,
      ap (λ rs. slice_index rs k) e,
    )

-- rows of different points fit into one
pub rows_fit : (xs ys zs : List ℕ)
    → ((k : ℕ) → slice_index xs k + slice_index ys k ≤ slice_index zs k) → length xs ≡ length zs
    → AreWords zs → Fits (2 ^ 64 - 1) xs ys
rows_fit xs ys zs le l h = λ k b. omega (arith, h k (omega (arith, b, l)), le k)
