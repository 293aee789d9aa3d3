-- How much of a text was written.
use Rattle.std.specs.Prelude.{◌≡◌, ℕ, ◌<◌, List, take, length, Option}
use Rattle.std.specs.Io.KnownBytes.{Appends, Keeps}
use Rattle.http_edge.specs.declared.written.Written.{Written}
use Rattle.http_edge.specs.declared.written.Written.TheVariants.{All, None_, Part}

-- the sink took all of the text; or none of it, or the first bytes, some but not all
abbrev pub Sent : Option (List ℕ) → Option (List ℕ) → List ℕ → Written → Type 0
Sent old new text All = Appends old new text
Sent old new text None_ = Keeps old new
Sent old new text (Part n) = Appends old new (take n text) × (0 < n) × (n < length text)

-- the count of failed calls before and after: none failed at All, and else one, so nothing was
-- tried again
abbrev pub Failed : (ℕ → ℕ) → ℕ → ℕ → Written → Type 0
Failed one_more old new All = new ≡ old
Failed one_more old new written = new ≡ one_more old
