use Rattle.std.proofs.Common.{◌≡◌, Option, Some, None, option_map, List, ℕ, sym, ◌∙◌}
use Rattle.std.specs.Prelude.{IfSome}
use Rattle.std.specs.Borrow.{Bor}
use Rattle.json.specs.Find as find
use Rattle.json.specs.Json.{Json}
use Rattle.serde_json.specs.Data.{Data, Num, number}
use Rattle.serde_json.specs.Read.{number_of}
use Rattle.json_points.proofs.NodeLemmas.{Same, same, number_same, no_number}
use Rattle.json_points.proofs.node.Node.as_number.Goals as goal

if_number : (j : Json) (d : Data) (r : Option (Bor (List ℕ))) → Same j d
    → option_map (λ s. s.now) r ≡ find.as_number j
    → IfSome r (λ s. (n : Num) × (number_of s.now ≡ Some n) × (d ≡ number n))
if_number j d None e is = tt
if_number j d (Some s) e is = number_same j d s.now e (sym is)

none_there : (j : Json) (r : Option (Bor (List ℕ))) → option_map (λ s. s.now) r ≡ find.as_number j
    → r ≡ None → find.as_number j ≡ None
none_there j None is none = sym is
none_there j (Some s) is none = absurd cc

pub returns-clause-found : goal.returns-clause-found
returns-clause-found c =
    let node = c.self.invariant in
    rw (← c.self.view_is) (if_number node.json _ c.as_number.result (same node.json _ node.says)
    (c.as_number.ensures node.json node.begins))

pub returns-clause-none : goal.returns-clause-none
returns-clause-none c none =
    let node = c.self.invariant in
    rw (← c.self.view_is) (no_number node.json _ (same node.json _ node.says)
    (none_there node.json c.as_number.result (c.as_number.ensures node.json node.begins) none))
