-- A client that was served.
use Rattle.std.specs.Prelude.{ℕ, List, Option}
use Rattle.gate_workers.specs.Conversations.{Giving}
use Rattle.gate_workers.specs.Paced.{Reaching, IsPaced}
use Rattle.gate_workers.specs.Served.{IsServed}
use Rattle.gate_workers.specs.declared.service.Served.{Served}

-- the keeper and the pace were asked for one and the same request, whatever its connection tells of
-- its bytes: the pace once or never, as IsPaced says
abbrev pub IsClientServed : {K P : Type 0} → Giving K → Reaching P → K × P → K × P → Served → Type 0
IsClientServed gives reaches w w' served =
    (input : Option (List ℕ)) × (old : Option (List ℕ)) × (new : Option (List ℕ))
    × IsServed gives input w.0 w'.0 old new served
    × IsPaced reaches input w.0 w'.0 w.1 w'.1 served
