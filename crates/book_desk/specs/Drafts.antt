-- What a post in the making has of what was read so far.
use Rattle.std.specs.Prelude.{◌≡◌, ◌+◌, length}
use Rattle.otlp_read.specs.Tallies.{Tally}
use Rattle.book_desk.specs.declared.draft.Draft.{Draft}
use Rattle.book_desk.specs.Splits.{AreSplit}
use Rattle.book_desk.specs.Windows.{within}

-- of these points it has those that end within its window, and it counts all
pub record HasRead (d : Draft) (t : Tally) : Type 0 where
  pub split : AreSplit d.parts.items (within d.window t.points)
  pub points : d.counts.points ≡ length (within d.window t.points)
  pub all : d.counts.points + d.counts.outside ≡ length t.points
  pub foreign : d.counts.foreign ≡ t.foreign
