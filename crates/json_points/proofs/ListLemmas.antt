-- A loop over the items of an array of which each one reads.
use Rattle.std.proofs.Common.{◌≡◌, List, [], ◌∷◌, ◌++◌, Option, Some, None, option_map, refl, ap}
use Rattle.std.proofs.Common.{sym, ◌∙◌, append_assoc, append-nil}
use Rattle.std.specs.Prelude.{option_and_then}
use Rattle.serde_json.specs.Data.{Data}
use Rattle.serde_json.specs.Find.{as_array}
use Rattle.otlp_read.specs.Containers.{elements}
use Rattle.otlp_read.specs.Lists.{all_of, elements_in, list_in}
use Rattle.otlp_read.proofs.ListLemmas.{with_front}

pub regroup : {A : Type 0} (front : List A) (x : A) (o : Option (List A))
    → with_front front (option_and_then (λ xs. Some (x ∷ xs)) o) ≡ with_front (front ++ x ∷ []) o
regroup front x None = refl
regroup front x (Some xs) = ap (λ ys. Some ys) (sym (append_assoc front (x ∷ []) xs))

pub no_front : {A : Type 0} (o : Option (List A)) → with_front [] o ≡ o
no_front None = refl
no_front (Some xs) = refl

-- one more element reads
pub one_more : {A : Type 0} (reads : Data → Option A) (front : List A) (x : A) (ds : List Data)
    (d : Data) (rest : List Data) (total : Option (List A))
    → ds ≡ d ∷ rest → reads d ≡ Some x → with_front front (all_of reads ds) ≡ total
    → with_front (front ++ x ∷ []) (all_of reads rest) ≡ total
unfolding all_of
one_more reads front x ds d rest total is read so_far =
    sym (regroup front x (all_of reads rest))
    ∙ ap (λ o. with_front front (option_and_then
    (λ y. option_and_then (λ xs. Some (y ∷ xs)) (all_of reads rest)) o)) (sym read)
    ∙ ap (λ xs. with_front front (all_of reads xs)) (sym is) ∙ so_far

-- one does not
pub one_stops : {A : Type 0} (reads : Data → Option A) (front : List A) (ds : List Data) (d : Data)
    (rest : List Data) (total : Option (List A))
    → ds ≡ d ∷ rest → reads d ≡ None → with_front front (all_of reads ds) ≡ total → total ≡ None
unfolding all_of
one_stops reads front ds d rest total is read so_far =
    sym so_far ∙ ap (λ xs. with_front front (all_of reads xs)) is
    ∙ ap (λ o. with_front front (option_and_then
    (λ y. option_and_then (λ xs. Some (y ∷ xs)) (all_of reads rest)) o)) read

-- none is left
pub all_read : {A : Type 0} (reads : Data → Option A) (front : List A) (ds : List Data)
    (total : Option (List A))
    → ds ≡ [] → with_front front (all_of reads ds) ≡ total → total ≡ Some front
unfolding all_of
all_read reads front ds total none so_far =
    sym so_far ∙ ap (λ xs. with_front front (all_of reads xs)) none
    ∙ ap (λ xs. Some xs) (append-nil front)

-- the list of a field
pub list_there : {A : Type 0} (reads : Data → Option A) (d : Data) (ds : List Data)
    (read : Option (List A)) → option_map elements (as_array d) ≡ Some ds → all_of reads ds ≡ read
    → list_in reads (Some d) ≡ read
unfolding elements_in
list_there reads d ds read is all = ap (option_and_then (all_of reads)) is ∙ all

-- a field that is no array
pub no_array_there : {A : Type 0} (reads : Data → Option A) (d : Data) → as_array d ≡ None
    → list_in reads (Some d) ≡ None
unfolding elements_in
no_array_there reads d is = rw is refl

pub no_list : {A : Type 0} (reads : Data → Option A) → list_in reads None ≡ Some []
unfolding elements_in all_of
no_list reads = refl
