-- How a body goes on: what a piece makes of its state.
use Rattle.std.specs.Prelude.{◌≡◌, ℕ, ◌+◌, ◌<◌, ◌≤◌, false, List}
use Rattle.std.specs.Prelude.{◌++◌, length, take, Option, None, Result, Ok, Err, ⊤}
use Rattle.http_edge.specs.declared.fault.HttpFault.{HttpFault}
use Rattle.http_edge.specs.declared.fault.HttpFault.TheVariants.{BodyTooLong, BadChunk, NoMemory}
use Rattle.http_edge.specs.declared.body.Body.{Body}
use Rattle.http_edge.specs.Body.{BodyState, Becomes, bare, IsOpen, is_whole, most_left}

abbrev pub body_state : Body → BodyState
body_state b = record { phase = b.phase; content = b.content.items; part = b.part.items }

-- any bytes become from new what they become behind these from old
pub record Steps (old new : BodyState) (bytes : List ℕ) : Type 0 where
  pub forward : (more : List ℕ) (body : Option (List ℕ)) → Becomes old (bytes ++ more) body
      → Becomes new more body
  pub backward : (more : List ℕ) (body : Option (List ℕ)) → Becomes new more body
      → Becomes old (bytes ++ more) body

-- the old part and the bytes are done with but for the new part: what the body becomes from where
-- the new part begins, it becomes from where the old part began
pub record Splits (old new : BodyState) (bytes : List ℕ) : Type 0 where
  pub past : List ℕ
  pub are : old.part ++ bytes ≡ past ++ new.part
  pub backward : (more : List ℕ) (body : Option (List ℕ)) → Becomes (bare new) more body
      → Becomes (bare old) (past ++ more) body

-- the bytes lead from old to new, which is open and has so many bytes less to come
pub record Reaches (old new : BodyState) (bytes : List ℕ) : Type 0 where
  pub opened : IsOpen new
  pub steps : Steps old new bytes
  pub splits : Splits old new bytes
  pub kept : is_whole new.phase ≡ false → is_whole old.phase ≡ false
  pub less : is_whole new.phase ≡ false → most_left new + length bytes ≤ most_left old

-- why the bytes lead nowhere: there is no body, whatever follows; or a size over the room, whatever
-- follows
abbrev pub Refuses : HttpFault → BodyState → List ℕ → Type 0
Refuses BadChunk old bytes =
    (more : List ℕ) (body : Option (List ℕ)) → ¬ (Becomes old (bytes ++ more) body)
Refuses BodyTooLong old bytes = (more : List ℕ) → Becomes old (bytes ++ more) None
Refuses NoMemory old bytes = ⊤
Refuses e old bytes = ⊥

-- n bytes of the piece were taken, at least one, and lead from old to new; or the piece leads
-- nowhere
abbrev pub IsStep : BodyState → BodyState → List ℕ → Result ℕ HttpFault → Type 0
IsStep old new piece (Ok n) = (0 < n) × (n ≤ length piece) × Reaches old new (take n piece)
IsStep old new piece (Err e) = Refuses e old piece
