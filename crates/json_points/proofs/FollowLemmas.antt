-- The attributes of a list, beside those of a set.
use Rattle.std.proofs.Common.{◌≡◌, ℕ, ◌+◌, ◌<◌, ◌≤◌, List, [], ◌∷◌, ◌++◌, map, take, length, Option}
use Rattle.std.proofs.Common.{Some, ap, sym, subst, ◌∙◌, arith}
use Rattle.std.proofs.lemmas.Bool.Decides.{nat_tests}
use Rattle.std.specs.Prelude.{Bool, get_or, option_and_then, IsTrue, nat_eq}
use Rattle.std.proofs.lemmas.List.{take_more, take_all, map-append, nil_from_length}
use Rattle.serde_json.specs.Data.{Data}
use Rattle.series_id.specs.declared.attributes.Attribute.{Attribute}
use Rattle.series_id.specs.declared.kinds.Kind.{Kind}
use Rattle.series_id.specs.declared.values.AttrValue.{AttrValue}
use Rattle.series_id.specs.Identity.{Identity}
use Rattle.series_id.specs.Sorting.{pair_of as pair_in}
use Rattle.otlp_read.specs.Lists.{all_of, list_in}
use Rattle.otlp_read.specs.Attributes.{pair_of, set_of, attributes_in}
use Rattle.otlp_read.specs.Streams.{Stream, series_in, series_of}
use Rattle.otlp_read.proofs.ListLemmas.{with_front}
use Rattle.json_points.proofs.ListLemmas.{one_more, all_read}

-- equal numbers
pub as_long : (i n : ℕ) → IsTrue (nat_eq i n) → n ≤ i
as_long i n h = grind (arith, nat_tests, h)

-- a list of no length
pub no_length : {A : Type 0} (xs : List A) (b : Bool) → b ≡ nat_eq (length xs) 0 → IsTrue b
    → xs ≡ []
no_length xs b is h =
    let none : length xs ≡ 0 = grind (arith, nat_tests, subst IsTrue is h) in
    nil_from_length xs none

-- one more pair of the list is the next of the set
pub said_more : (its : List Attribute) (i : ℕ) (a : Attribute) (p : List ℕ × AttrValue)
    (ds : List Data) (d : Data) (rest : List Data) (total : Option (List (List ℕ × AttrValue)))
    → i < length its → a ≡ get_or its i a → ds ≡ d ∷ rest → pair_of d ≡ Some p → p ≡ pair_in a
    → with_front (map pair_in (take i its)) (all_of pair_of ds) ≡ total
    → with_front (map pair_in (take (i + 1) its)) (all_of pair_of rest) ≡ total
said_more its i a p ds d rest total fits at is read same so_far =
    ap (λ f. with_front f (all_of pair_of rest))
    (ap (map pair_in) (take_more its i a fits ∙ ap (λ x. take i its ++ x ∷ []) (sym at))
    ∙ map-append pair_in (take i its) (a ∷ []))
    ∙ one_more pair_of (map pair_in (take i its)) (pair_in a) ds d rest total is
    (read ∙ ap (λ x. Some x) same) so_far

-- both have ended
pub said_all : (its : List Attribute) (i : ℕ) (ds : List Data)
    (total : Option (List (List ℕ × AttrValue)))
    → length its ≤ i → ds ≡ []
    → with_front (map pair_in (take i its)) (all_of pair_of ds) ≡ total
    → total ≡ Some (map pair_in its)
said_all its i ds total ended none so_far =
    all_read pair_of (map pair_in (take i its)) ds total none so_far
    ∙ ap (λ xs. Some (map pair_in xs)) (take_all i its ended)

-- the series of the pairs is the series of the field
pub series_said : (stream : Stream) (kind : Kind) (found : Option Data)
    (pairs : List (List ℕ × AttrValue)) (x : Identity)
    → list_in pair_of found ≡ Some pairs
    → option_and_then (series_in stream kind) (set_of pairs) ≡ Some x
    → series_of stream kind found ≡ Some x
unfolding series_of attributes_in
series_said stream kind found pairs x list there =
    ap (λ o. option_and_then (series_in stream kind) (option_and_then set_of o)) list ∙ there
