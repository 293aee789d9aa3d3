-- The first field of a name, from a place on.
use Rattle.std.proofs.Common.{◌≡◌, ◌<◌, ◌≤◌, ◌+◌, ℕ, Bool, true, false, List, [], ◌∷◌, drop, length}
use Rattle.std.proofs.Common.{get_or, Option, Some, None, ap, sym, subst, ◌∙◌, refl}
use Rattle.std.proofs.lemmas.List.{drop_more, drop_all}
use Rattle.http_edge.specs.declared.header.Header as kept
use Rattle.http_edge.specs.Message.{Header}
use Rattle.http_edge.specs.Framing.{is_named, values_of}
use Rattle.http_edge.specs.Find.{first_in, HasValues}
use Rattle.http_edge.specs.Request.{header_in, headers_in}

-- ---- the loop

by_name : (name : List ℕ) (h : Header) (hs : List Header) → is_named name h ≡ true
    → first_in name (h ∷ hs) ≡ Some (h.1, hs)
unfolding first_in
by_name name h hs e = rw e refl

by_other : (name : List ℕ) (h : Header) (hs : List Header) → is_named name h ≡ false
    → first_in name (h ∷ hs) ≡ first_in name hs
unfolding first_in
by_other name h hs e = rw e refl

at_place : (name : List ℕ) (hs : List kept.Header) (i : ℕ) (h : kept.Header) → i < length hs
    → h ≡ get_or hs i h
    → first_in name (headers_in (drop i hs)) ≡ first_in name (headers_in (h ∷ drop (i + 1) hs))
at_place name hs i h within is = ap (λ xs. first_in name (headers_in xs))
    (drop_more hs i h within ∙ ap (λ x. x ∷ drop (i + 1) hs) (sym is))

pub named_here : (name : List ℕ) (hs : List kept.Header) (i : ℕ) (h : kept.Header) → i < length hs
    → h ≡ get_or hs i h → is_named name (header_in h) ≡ true
    → first_in name (headers_in (drop i hs)) ≡ Some (h.value.items, headers_in (drop (i + 1) hs))
named_here name hs i h within is e =
    at_place name hs i h within is ∙ by_name name (header_in h) (headers_in (drop (i + 1) hs)) e

pub other_here : (name : List ℕ) (hs : List kept.Header) (i : ℕ) (h : kept.Header) → i < length hs
    → h ≡ get_or hs i h → is_named name (header_in h) ≡ false
    → first_in name (headers_in (drop i hs)) ≡ first_in name (headers_in (drop (i + 1) hs))
other_here name hs i h within is e =
    at_place name hs i h within is ∙ by_other name (header_in h) (headers_in (drop (i + 1) hs)) e

pub none_left : (name : List ℕ) (hs : List kept.Header) (i : ℕ) → length hs ≤ i
    → first_in name (headers_in (drop i hs)) ≡ None
unfolding first_in
none_left name hs i h = ap (λ xs. first_in name (headers_in xs)) (drop_all i hs h)

-- ---- the values

own_value : (name : List ℕ) (h : Header) (hs : List Header) → is_named name h ≡ true
    → values_of name (h ∷ hs) ≡ h.1 ∷ values_of name hs
unfolding values_of
own_value name h hs is = rw is refl

no_value : (name : List ℕ) (h : Header) (hs : List Header) → is_named name h ≡ false
    → values_of name (h ∷ hs) ≡ values_of name hs
unfolding values_of
no_value name h hs is = rw is refl

same_values : (name : List ℕ) (hs gs : List Header) (o : Option (List ℕ × List Header))
    → values_of name gs ≡ values_of name hs → HasValues name hs o → HasValues name gs o
same_values name hs gs None same so = same ∙ so
same_values name hs gs (Some found) same so = same ∙ so

values_at : (name : List ℕ) (h : Header) (hs : List Header) (b : Bool) → is_named name h ≡ b
    → HasValues name hs (first_in name hs) → HasValues name (h ∷ hs) (first_in name (h ∷ hs))
values_at name h hs true is so =
    subst (HasValues name (h ∷ hs)) (sym (by_name name h hs is)) (own_value name h hs is)
values_at name h hs false is so = subst (HasValues name (h ∷ hs)) (sym (by_other name h hs is))
    (same_values name hs (h ∷ hs) (first_in name hs) (no_value name h hs is) so)

pub has_values : (name : List ℕ) (hs : List Header) → HasValues name hs (first_in name hs)
unfolding first_in values_of
has_values name [] = refl
has_values name (h ∷ hs) = values_at name h hs (is_named name h) refl (has_values name hs)

pub values_of_found : (name : List ℕ) (hs : List Header) (o : Option (List ℕ × List Header))
    → o ≡ first_in name hs → HasValues name hs o
values_of_found name hs o is = subst (HasValues name hs) (sym is) (has_values name hs)
