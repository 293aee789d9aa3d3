-- A loop over the elements of a list, or over numbers, of which each one reads.
use Rattle.std.proofs.Common.{◌≡◌, ℕ, List, [], ◌∷◌, ◌++◌, map, Option, Some, None, refl, ap, sym}
use Rattle.std.proofs.Common.{◌∙◌, append_assoc, append-nil}
use Rattle.std.specs.Prelude.{MatchOption, option_and_then}
use Rattle.std.specs.Borrow.{Bor}
use Rattle.serde_json.specs.Data.{Data}
use Rattle.otlp_read.specs.Lists.{all_of}
use Rattle.otlp_read.proofs.ListLemmas.{with_front}

regroup : {A : Type 0} (front : List A) (x : A) (o : Option (List A))
    → with_front front (option_and_then (λ xs. Some (x ∷ xs)) o) ≡ with_front (front ++ x ∷ []) o
regroup front x None = refl
regroup front x (Some xs) = ap (λ ys. Some ys) (sym (append_assoc front (x ∷ []) xs))

pub no_front : {A : Type 0} (o : Option (List A)) → with_front [] o ≡ o
no_front None = refl
no_front (Some xs) = refl

-- one more element reads
pub one_more : {A B : Type 0} (shows : B → Data) (reads : Data → Option A) (front : List A) (x : A)
    (bs : List B) (b : B) (rest : List B) (total : Option (List A))
    → bs ≡ b ∷ rest → reads (shows b) ≡ Some x
    → with_front front (all_of reads (map shows bs)) ≡ total
    → with_front (front ++ x ∷ []) (all_of reads (map shows rest)) ≡ total
unfolding all_of
one_more shows reads front x bs b rest total is read so_far =
    sym (regroup front x (all_of reads (map shows rest)))
    ∙ ap (λ o. with_front front (option_and_then
    (λ y. option_and_then (λ xs. Some (y ∷ xs)) (all_of reads (map shows rest))) o)) (sym read)
    ∙ ap (λ xs. with_front front (all_of reads (map shows xs))) (sym is) ∙ so_far

-- one does not
pub one_stops : {A B : Type 0} (shows : B → Data) (reads : Data → Option A) (front : List A)
    (bs : List B) (b : B) (rest : List B) (total : Option (List A))
    → bs ≡ b ∷ rest → reads (shows b) ≡ None
    → with_front front (all_of reads (map shows bs)) ≡ total → total ≡ None
unfolding all_of
one_stops shows reads front bs b rest total is read so_far =
    sym so_far ∙ ap (λ xs. with_front front (all_of reads (map shows xs))) is
    ∙ ap (λ o. with_front front (option_and_then
    (λ y. option_and_then (λ xs. Some (y ∷ xs)) (all_of reads (map shows rest))) o)) read

-- none is left
pub all_read : {A B : Type 0} (shows : B → Data) (reads : Data → Option A) (front : List A)
    (bs : List B) (total : Option (List A))
    → bs ≡ [] → with_front front (all_of reads (map shows bs)) ≡ total → total ≡ Some front
unfolding all_of
all_read shows reads front bs total none so_far =
    sym so_far ∙ ap (λ xs. with_front front (all_of reads (map shows xs))) none
    ∙ ap (λ xs. Some xs) (append-nil front)

pub over : (bs new : List (List ℕ)) (r : Option (Bor (List ℕ)))
    → MatchOption r (bs ≡ []) (λ b. bs ≡ b.now ∷ new) → r ≡ None → bs ≡ []
over bs new None h is = h
over bs new (Some b) h is = absurd cc

pub numbers_over : (ns new : List ℕ) (r : Option ℕ) → MatchOption r (ns ≡ []) (λ n. ns ≡ n ∷ new)
    → r ≡ None → ns ≡ []
numbers_over ns new None h is = h
numbers_over ns new (Some n) h is = absurd cc
