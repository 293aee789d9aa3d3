-- What a handle owns.
use base.Fml.{Fml}
use base.Stored.{Coded}
use Rattle.std.specs.Ptr.{Ptr, if_non_null}
use Rattle.std.specs.Box.Ownership.{box_owns}
use Rattle.std.specs.Global.{Global}
use Rattle.std.specs.contracts.impls.GlobalAllocator.TheImpl.{ghosts}
use Rattle.book_c.specs.contracts.kept.Kept.{the_row}

-- what lies at p, with the right to free it; nothing where p is null
abbrev pub keeps : Global → Ptr → the_row.Denot → Fml
keeps alloc p it = if_non_null p (box_owns (ghosts.dealloc_token alloc) the_row p it)

abbrev pub kept_coded : Coded the_row.Denot
kept_coded = the_row.coded
