-- Lists that several owners share.
use Rattle.std.specs.Prelude.{List, [], Option, Some, None, Vec}
use Rattle.std.specs.Arc.{arc_value}
use Rattle.std.specs.declared.sync.Arc.{Arc}

module _ {X Y Z : Type 0} where
  -- the items of a shared list; no list has no items
  abbrev pub shared_items : Option (Arc (Vec X Y) Z) → List X
  shared_items None = []
  shared_items (Some shared) = (arc_value shared).items
