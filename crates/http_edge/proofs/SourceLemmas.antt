-- What a source gave, call by call.
use Rattle.std.proofs.Common.{◌≡◌, ◌<◌, ◌≤◌, List, ℕ, [], ◌++◌, length, take, Option, Some, None}
use Rattle.std.proofs.Common.{sym, ◌∙◌, arith}
use Rattle.std.specs.Prelude.{IfSome}
use Rattle.std.proofs.lemmas.List.{length-append, length-take-le}
use Rattle.std.specs.Io.KnownBytes.{Consumes, IsAtEnd}
use Rattle.std.proofs.KnownBytes.{Consumes-trans}
use Rattle.http_edge.specs.Delivery.{StopsReading}
use Rattle.http_edge.proofs.FormLemmas.{known_front, not_empty}

-- where a piece has a byte, nothing has to be said of a source without one
pub some_given : (old now next : Option (List ℕ)) (before buf : List ℕ) (n : ℕ) (P : Type 0)
    → Consumes old now before → Consumes now next (take n buf) → n ≤ length buf → 0 < n
    → IfSome old (λ bytes. bytes ≡ [] → P)
some_given old now next before buf n P known took within some =
    let all = before ++ take n buf in
    not_empty old all P (known_front old next all
    (Consumes-trans old now next before (take n buf) known took))
    (omega (arith, length-append before (take n buf), length-take-le n buf within, some))

-- how far it was read, where n bytes came last
pub stops : (Open : List ℕ → Type 0) (old now next : Option (List ℕ)) (given n : ℕ)
    (before buf : List ℕ) → Consumes old now before → Consumes now next (take n buf)
    → n ≤ length buf → given ≡ n → Open before → StopsReading Open old next given
stops Open old now next given n before buf known took within is o = (
  before,
  take n buf,
  Consumes-trans old now next before (take n buf) known took,
  omega
      (arith, is, length-take-le n buf within),
  o,
)

-- a call that gave nothing left the source at its end
pub at_end : (old now next : Option (List ℕ)) (before : List ℕ) (P : Type 0)
    → Consumes old now before → Consumes now next [] → IsAtEnd now
    → IfSome old (λ _. P → IsAtEnd next)
at_end None now next before P known took ended = tt
at_end (Some bytes) None next before P known took ended = absurd known
at_end (Some bytes) (Some left) None before P known took ended = absurd took
at_end (Some bytes) (Some left) (Some more) before P known took ended = λ _. sym took ∙ ended
