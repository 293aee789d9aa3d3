-- The range of ends, one end after the other.
use Rattle.std.specs.Prelude.{ℕ, Option, Some, None, min, max, fold}
use Rattle.metric_events.specs.DataPoint.{DataPoint}
use Rattle.book_desk.specs.declared.end_range.EndRange.{EndRange}
use Rattle.book_desk.specs.declared.part.Part.{Part}
use Rattle.book_desk.specs.EndRanges.{end_of}
use Rattle.book_desk.specs.Splits.{points_in}

-- with one end more
abbrev pub with_end : Option EndRange → ℕ → Option EndRange
with_end None end = Some (record { least = end; greatest = end })
with_end (Some range) end =
    Some (record { least = min range.least end; greatest = max range.greatest end })

-- with that of one point more
abbrev pub with_point : Option EndRange → DataPoint → Option EndRange
with_point range p = with_end range (end_of p)

-- with those of one part more
abbrev pub with_part : Option EndRange → Option Part → Option EndRange
with_part range part = fold with_point range (points_in part)
