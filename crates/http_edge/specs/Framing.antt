-- Where a head says that its body ends, and what is answered for it.
use Rattle.std.specs.Prelude.{◌==◌, ℕ, Bool, ◌&&◌, List, [], ◌∷◌, map, filter}
use Rattle.std.specs.Prelude.{Option, Some, None, option_map, codes, if◌then◌else◌}
use Rattle.std.specs.Str.{str_eq_ignore_ascii_case}
use Rattle.decimals.specs.Numbers.{number}
use Rattle.http_edge.specs.declared.framing.Framing.{Framing}
use Rattle.http_edge.specs.declared.framing.Framing.TheVariants.{Sized, Chunked}
use Rattle.http_edge.specs.Message.{Header}

-- names of fields are compared without regard to ASCII case
abbrev pub is_named : List ℕ → Header → Bool
is_named name h = str_eq_ignore_ascii_case h.0 name

-- the values of the fields of that name, in order
unfoldable pub values_of : List ℕ → List Header → List (List ℕ)
values_of name hs = map (λ h. h.1) (filter (is_named name) hs)

-- a body of as many bytes as the text says
abbrev pub framing_by_length : List ℕ → Option Framing
framing_by_length v = option_map (λ n. Sized n) (number v)

-- the one coding that is known, and only in HTTP/1.1
abbrev pub framing_by_coding : ℕ → List ℕ → Option Framing
framing_by_coding minor v =
    if str_eq_ignore_ascii_case v (codes "chunked") && (minor == 1) then Some Chunked else None

-- one coding and no length, or one length and no coding, or neither
abbrev pub framing_of : ℕ → List (List ℕ) → List (List ℕ) → Option Framing
framing_of minor [] [] = Some (Sized 0)
framing_of minor [] (v ∷ []) = framing_by_length v
framing_of minor [] (v ∷ w ∷ vs) = None
framing_of minor (c ∷ []) [] = framing_by_coding minor c
framing_of minor (c ∷ []) (v ∷ vs) = None
framing_of minor (c ∷ d ∷ cs) vs = None

-- how the fields of a head of HTTP/1.minor frame the body
abbrev pub framing_by : ℕ → List Header → Option Framing
framing_by minor hs =
    framing_of minor (values_of (codes "transfer-encoding") hs)
    (values_of (codes "content-length") hs)
