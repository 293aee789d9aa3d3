-- The fields of one name.
use Rattle.std.proofs.Common.{◌≡◌, ℕ, ◌+◌, ◌<◌, ◌≤◌, filter, List, [], ◌∷◌, ◌++◌, length, map, drop}
use Rattle.std.proofs.Common.{take, get_or, sym, ap, ◌∙◌, arith}
use Rattle.std.proofs.lemmas.List.{take_more, map_push, map-append, take-append-drop, length-append}
use Rattle.std.proofs.lemmas.List.Elements.{filter-append}
use Rattle.httparse.specs.declared.spans.HeaderSpan.{HeaderSpan}
use Rattle.httparse.specs.Spans.{header_bytes}
use Rattle.http_edge.specs.Framing.{is_named, values_of}
use Rattle.http_edge.specs.Message.{Header}

-- a header of no bytes
abbrev pub unset : HeaderSpan
unset = record { name = record { start = 0; end = 0 }; value = record { start = 0; end = 0 } }

pub values_of-append : (name : List ℕ) (hs gs : List Header)
    → values_of name (hs ++ gs) ≡ values_of name hs ++ values_of name gs
unfolding values_of
values_of-append name hs gs = ap (map (λ h. h.1)) (filter-append (is_named name) hs gs)
    ∙ map-append (λ h. h.1) (filter (is_named name) hs) (filter (is_named name) gs)

-- one more header
pub values_of_more : (name buf : List ℕ) (hs : List HeaderSpan) (i : ℕ) (d : HeaderSpan)
    → i < length hs
    → values_of name (map (header_bytes buf) (take (i + 1) hs))
    ≡ values_of name (map (header_bytes buf) (take i hs))
    ++ values_of name (header_bytes buf (get_or hs i d) ∷ [])
values_of_more name buf hs i d within =
    ap (λ xs. values_of name (map (header_bytes buf) xs)) (take_more hs i d within)
    ∙ ap (values_of name) (map_push (header_bytes buf) (take i hs) (get_or hs i d))
    ∙ values_of-append name (map (header_bytes buf) (take i hs))
    (header_bytes buf (get_or hs i d) ∷ [])

-- what the first headers have, all have
pub values_of_grow : (name buf : List ℕ) (hs : List HeaderSpan) (i : ℕ)
    → length (values_of name (map (header_bytes buf) (take i hs)))
    ≤ length (values_of name (map (header_bytes buf) hs))
values_of_grow name buf hs i =
    let f = header_bytes buf in
    let whole : values_of name (map f hs)
    ≡ values_of name (map f (take i hs)) ++ values_of name (map f (drop i hs)) =
    ap (λ xs. values_of name (map f xs)) (sym (take-append-drop i hs))
    ∙ ap (values_of name) (map-append f (take i hs) (drop i hs))
    ∙ values_of-append name (map f (take i hs)) (map f (drop i hs)) in
    omega (
      arith,
      ap length whole,
      length-append (values_of name (map f (take i hs)))
          (values_of name (map f (drop i hs))),
    )
