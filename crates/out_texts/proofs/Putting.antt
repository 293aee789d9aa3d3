-- A text after more was appended to it.
use Rattle.std.proofs.Common.{◌≡◌, ℕ, ◌+◌, ◌<◌, ◌≤◌, cond, List, [], ◌∷◌, ◌++◌, length, get_or}
use Rattle.std.proofs.Common.{take, Result, Ok, Err, append_assoc, sym, ap, ◌∙◌}
use Rattle.std.proofs.lemmas.List.{take_more, take_all, flat_map_more}
use Rattle.std.specs.List.{flat_map}
use Rattle.std.specs.Result.{is_ok, OnOk}

pub put_after : {T E : Type 0} (r : Result T E) (new old text : List ℕ)
    → new ≡ cond (is_ok r) (old ++ text) old → OnOk r (new ≡ old ++ text)
put_after (Ok x) new old text h = h
put_after (Err e) new old text h = tt

-- one text after another
pub put_two : {T E : Type 0} (r : Result T E) (old a b middle new : List ℕ) → middle ≡ old ++ a
    → OnOk r (new ≡ middle ++ b) → OnOk r (new ≡ old ++ (a ++ b))
put_two (Ok x) old a b middle new first second = second ∙ ap (λ m. m ++ b) first ∙ simp append_assoc
put_two (Err e) old a b middle new first second = tt

pub put_three : {T E : Type 0} (r : Result T E) (old a b c one two new : List ℕ) → one ≡ old ++ a
    → two ≡ one ++ b → OnOk r (new ≡ two ++ c) → OnOk r (new ≡ old ++ (a ++ b ++ c))
put_three (Ok x) old a b c one two new first second third =
    third ∙ ap (λ m. m ++ c) (second ∙ ap (λ m. m ++ b) first) ∙ simp append_assoc
put_three (Err e) old a b c one two new first second third = tt

-- one more element was written: its text comes after those before it
pub put_next : {X : Type 0} (write : X → List ℕ) (xs : List X) (i : ℕ) (x d : X)
    (start before after : List ℕ)
    → i < length xs → x ≡ get_or xs i d → after ≡ before ++ write x
    → before ≡ start ++ flat_map write (take i xs)
    → after ≡ start ++ flat_map write (take (i + 1) xs)
put_next write xs i x d start before after within is written so_far =
    let here : take (i + 1) xs ≡ take i xs ++ x ∷ [] =
    take_more xs i d within ∙ ap (λ y. take i xs ++ y ∷ []) (sym is) in
    written ∙ ap (λ b. b ++ write x) so_far ∙ flat_map_more write start (take i xs) x
    ∙ ap (λ ys. start ++ flat_map write ys) (sym here)

-- the same, where a mark was put before the text
pub put_more : {X : Type 0} (mark : ℕ) (text : X → List ℕ) (xs : List X) (i : ℕ) (x d : X)
    (start before middle after : List ℕ)
    → i < length xs → x ≡ get_or xs i d → middle ≡ before ++ mark ∷ [] → after ≡ middle ++ text x
    → before ≡ start ++ flat_map (λ y. mark ∷ text y) (take i xs)
    → after ≡ start ++ flat_map (λ y. mark ∷ text y) (take (i + 1) xs)
put_more mark text xs i x d start before middle after within is marked written so_far =
    put_next (λ y. mark ∷ text y) xs i x d start before after within is
    (written ∙ ap (λ m. m ++ text x) marked ∙ simp append_assoc) so_far

-- every element was written
pub put_all : {X : Type 0} (write : X → List ℕ) (xs : List X) (i : ℕ) (start after : List ℕ)
    → after ≡ start ++ flat_map write (take i xs) → length xs ≤ i
    → after ≡ start ++ flat_map write xs
put_all write xs i start after so_far past =
    so_far ∙ ap (λ ys. start ++ flat_map write ys) (take_all i xs past)
