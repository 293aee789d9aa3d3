-- The contents of a cell, as contracts see it.
use Rattle.std.specs.Prelude.{◌≡◌, ℕ, ◌-◌, ◌<◌, ◌≤◌, ◌^◌, List, [], length, slice_index}
use Rattle.std.specs.Prelude.{vec_capacity, vec_len}
use Rattle.metric_events.specs.declared.accepted.Accepted.{Accepted}
use Rattle.series_cell.specs.Cells.{CellView, Stands}
use Rattle.series_cell.specs.declared.batch_span.TheConstants.{KEPT_ROOM}
use Rattle.series_cell.specs.declared.cell_parts.CellParts.{CellParts}

-- rows and spans as lists; spare is the room that is left for spans
abbrev pub view_of : CellParts → CellView
view_of k = record {
  owner = k.owner;
  id = k.id;
  accepted = k.rows.accepted;
  stored = k.rows.stored;
  in_flight = k.rows.in_flight;
  acknowledged = k.rows.acknowledged;
  dropped = k.rows.dropped;
  spans = k.spans.items;
  cut = k.cut;
  flush = k.flush;
  landed = k.landed;
  spare = vec_capacity k.spans - vec_len k.spans;
}

-- a cell represents some points
abbrev pub IsCell : CellView → Type 0
IsCell c = (qs : List Accepted) × Stands c qs

-- each word of a row has 64 bits
abbrev pub AreWords : List ℕ → Type 0
AreWords row = (k : ℕ) → k < length row → slice_index row k < 2 ^ 64

-- where no span is left, no more room is kept than what a usual post needs
abbrev pub IsLean : CellView → Type 0
IsLean c = c.spans ≡ [] → c.spare ≤ KEPT_ROOM

-- the contents represent some points, and each word of the sum of all their rows has 64 bits. So
-- has each word of a sum of some of those rows. Room that is not needed is given back.
pub record IsKept (k : CellParts) : Type 0 where
  pub cell : IsCell (view_of k)
  pub words : AreWords k.rows.accepted
  pub lean : IsLean (view_of k)
