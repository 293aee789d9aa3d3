-- The first field of a name.
use Rattle.std.specs.Prelude.{◌≡◌, ℕ, List, [], ◌∷◌, Option, Some, None, option_map, if◌then◌else◌}
use Rattle.std.specs.Borrow.{Bor}
use Rattle.http_edge.specs.declared.header.Header as kept
use Rattle.http_edge.specs.Message.{Header}
use Rattle.http_edge.specs.Framing.{is_named, values_of}
use Rattle.http_edge.specs.Request.{headers_in}

-- the value of the first field of that name, and the fields after it
unfoldable pub first_in : List ℕ → List Header → Option (List ℕ × List Header)
first_in name [] = None
first_in name (h ∷ hs) = if is_named name h then Some (h.1, hs) else first_in name hs

-- the values of the fields of that name are that value and those of the fields after it, or there
-- are none
abbrev pub HasValues : List ℕ → List Header → Option (List ℕ × List Header) → Type 0
HasValues name hs None = values_of name hs ≡ []
HasValues name hs (Some found) = values_of name hs ≡ found.0 ∷ values_of name found.1

-- a value and fields as plain values
abbrev pub seen_in : Option (Bor (List ℕ) × Bor (List kept.Header)) → Option (List ℕ × List Header)
seen_in found = option_map (λ f. (f.0.now, headers_in f.1.now)) found
