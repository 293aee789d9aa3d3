-- How a sink that was given a text went on.
use Rattle.std.specs.Prelude.{◌≡◌, ℕ, ◌+◌, ◌<◌, List, take, length, Option, zero, suc}
use Rattle.std.specs.Io.KnownBytes.{Appends}
use Rattle.http_edge.specs.declared.written.Written.{Written}
use Rattle.http_edge.specs.declared.written.Written.TheVariants.{All, None_, Part}

-- what is returned where so many bytes were taken, and not all
abbrev pub cut_after : ℕ → Written
cut_after zero = None_
cut_after (suc n) = Part (suc n)

-- the sink took some of the bytes, not all, behind those that were sent, and that is the answer
pub record IsCut (old new : Option (List ℕ)) (sent : ℕ) (bytes : List ℕ)
    (answer : Written) : Type 0 where
  pub many : ℕ
  pub fewer : many < length bytes
  pub taken : Appends old new (take many bytes)
  pub answer_is : answer ≡ cut_after (sent + many)

-- the sink took all of the bytes, or was cut
abbrev pub Ends : Option (List ℕ) → Option (List ℕ) → ℕ → List ℕ → Written → Type 0
Ends old new sent bytes All = Appends old new bytes
Ends old new sent bytes written = IsCut old new sent bytes written
