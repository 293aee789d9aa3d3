-- Loops that write a value for each element, or for each group.
use Rattle.std.proofs.Common.{◌≡◌, ℕ, suc, ◌+◌, ◌-◌, ◌<◌, ◌≤◌, Bool, true, false, cond, List, []}
use Rattle.std.proofs.Common.{◌∷◌, ◌++◌, map, take, drop, length, get_or, refl, sym, ap, ◌∙◌}
use Rattle.std.proofs.Common.{append_assoc, arith}
use Rattle.std.proofs.lemmas.List.{take_more, take_all, map_push, append-nil, length-drop}
use Rattle.std.proofs.lemmas.List.{drop_more, at_drop_all}
use Rattle.serde_json.specs.Data.{Data}
use Rattle.serde_json.specs.declared.value.Value.{Value}
use Rattle.serde_json.specs.View.{view, items_of}
use Rattle.out_texts.specs.Groups.{members, put_before, groups}
use Rattle.out_texts.specs.inner.Groups.{run}

pub values_more : {X : Type 0} (write : X → Data) (xs : List X) (i : ℕ) (x : X)
    (before : List Value) (v : Value) (after : List Value)
    → i < length xs → x ≡ get_or xs i x → after ≡ before ++ v ∷ [] → view v ≡ write x
    → map view before ≡ map write (take i xs) → map view after ≡ map write (take (i + 1) xs)
values_more write xs i x before v after within is pushed viewed so_far =
    let here : take (i + 1) xs ≡ take i xs ++ x ∷ [] =
    take_more xs i x within ∙ ap (λ y. take i xs ++ y ∷ []) (sym is) in
    ap (map view) pushed ∙ map_push view before v ∙ ap (λ ds. ds ++ view v ∷ []) so_far
    ∙ ap (λ d. map write (take i xs) ++ d ∷ []) viewed
    ∙ sym (ap (map write) here ∙ map_push write (take i xs) x)

pub values_done : {X : Type 0} (write : X → Data) (xs : List X) (i : ℕ) (vs : List Value)
    → map view vs ≡ map write (take i xs) → length xs ≤ i
    → items_of (map view vs) ≡ items_of (map write xs)
values_done write xs i vs so_far past = ap items_of (so_far ∙ ap (map write) (take_all i xs past))

-- the first group, and the groups of what is left after it
pub first_group : {X : Type 0} (same : X → X → Bool) (x : X) (xs : List X)
    → groups same (x ∷ xs) ≡ (x, take (run same x xs) xs) ∷ groups same (drop (run same x xs) xs)
unfolding groups run
first_group same x [] = refl
first_group {X = X} same x (y ∷ ys) =
    ap (put_before same x) (first_group same y ys) ∙ by (same x y) (first_group same y ys)
  where
    by : (b : Bool) → groups same (y ∷ ys)
        ≡ (y, take (run same y ys) ys) ∷ groups same (drop (run same y ys) ys)
        → cond b ((x, y ∷ take (run same y ys) ys) ∷ groups same (drop (run same y ys) ys))
        ((x, []) ∷ (y, take (run same y ys) ys) ∷ groups same (drop (run same y ys) ys))
        ≡ (x, take (cond b (suc (run same y ys)) 0) (y ∷ ys))
        ∷ groups same (drop (cond b (suc (run same y ys)) 0) (y ∷ ys))
    by true h = refl
    by false h = ap (λ gs. (x, []) ∷ gs) (sym h)

pub run_same : {X : Type 0} (same : X → X → Bool) (x y : X) (ys : List X) → same x y ≡ true
    → run same x (y ∷ ys) ≡ suc (run same y ys)
unfolding run
run_same same x y ys e = rw e refl

pub run_other : {X : Type 0} (same : X → X → Bool) (x y : X) (ys : List X) → same x y ≡ false
    → run same x (y ∷ ys) ≡ 0
unfolding run
run_other same x y ys e = rw e refl

pub run_none : {X : Type 0} (same : X → X → Bool) (x : X) → run same x [] ≡ 0
unfolding run
run_none same x = refl

-- one group was written: its members are the first of what was left
pub group_more : {X : Type 0} (same : X → X → Bool) (write : X → List X → Data) (all : List Data)
    (left : List X) (x : X) (others : List X) (n : ℕ) (group rest : List X) (before : List Value)
    (v : Value) (after : List Value)
    → 1 ≤ length left → x ≡ get_or left 0 x → others ≡ drop 1 left → n ≡ run same x others
    → n ≤ length others → rest ≡ drop n others → group ≡ take (length left - length rest) left
    → after ≡ before ++ v ∷ [] → view v ≡ write x group
    → map view before ++ map (λ g. write g.0 (members g)) (groups same left) ≡ all
    → map view after ++ map (λ g. write g.0 (members g)) (groups same rest) ≡ all
group_more same write all [] x others n group rest before v after some is is_others count few
    is_rest is_group pushed viewed so_far = absurd (omega (arith, some))
group_more same write all (y ∷ xs) x others n group rest before v after some is is_others count few
    is_rest is_group pushed viewed so_far =
    let fewer : n ≤ length xs = rw (sym (ap length is_others)) few in
    let shorter : length rest ≡ length xs - n =
    ap length (is_rest ∙ ap (drop n) is_others) ∙ length-drop n xs in
    let size : suc (length xs) - length rest ≡ suc n = omega (arith, shorter, fewer) in
    let whole : group ≡ x ∷ take n xs =
    is_group ∙ ap (λ k. take k (y ∷ xs)) size ∙ ap (λ z. z ∷ take n xs) (sym is) in
    let first : groups same (y ∷ xs) ≡ (x, take n xs) ∷ groups same rest =
    ap (λ z. groups same (z ∷ xs)) (sym is) ∙ first_group same x xs
    ∙ ap (λ k. (x, take k xs) ∷ groups same (drop k xs))
    (sym (count ∙ ap (run same x) is_others))
    ∙ ap (λ ys. (x, take n xs) ∷ groups same ys) (sym (is_rest ∙ ap (drop n) is_others))
    in
    ap (λ vs. map view vs ++ map (λ g. write g.0 (members g)) (groups same rest)) pushed
    ∙ ap (λ ds. ds ++ map (λ g. write g.0 (members g)) (groups same rest)) (map_push view before v)
    ∙ append_assoc (map view before) (view v ∷ [])
    (map (λ g. write g.0 (members g)) (groups same rest))
    ∙ ap (λ d. map view before ++ d ∷ map (λ g. write g.0 (members g)) (groups same rest))
    (viewed ∙ ap (write x) whole)
    ∙ ap (λ gs. map view before ++ map (λ g. write g.0 (members g)) gs) (sym first) ∙ so_far

pub groups_done : {X : Type 0} (same : X → X → Bool) (write : X → List X → Data) (all : List Data)
    (left : List X) (vs : List Value)
    → length left < 1 → map view vs ++ map (λ g. write g.0 (members g)) (groups same left) ≡ all
    → items_of (map view vs) ≡ items_of all
unfolding groups
groups_done same write all [] vs none so_far = ap items_of (sym (append-nil (map view vs)) ∙ so_far)
groups_done same write all (x ∷ xs) vs none so_far = absurd (omega (arith, none))

-- the next point goes on with the run, or ends it
pub run_goes : {X : Type 0} (same : X → X → Bool) (last y : X) (xs : List X) (i : ℕ)
    (count whole : ℕ) → i < length xs → y ≡ get_or xs i y → same last y ≡ true
    → count + run same last (drop i xs) ≡ whole → (count + 1) + run same y (drop (i + 1) xs) ≡ whole
run_goes same last y xs i count whole within is e so_far =
    let here : drop i xs ≡ y ∷ drop (i + 1) xs =
    drop_more xs i y within ∙ ap (λ z. z ∷ drop (i + 1) xs) (sym is) in
    let more : run same last (drop i xs) ≡ suc (run same y (drop (i + 1) xs)) =
    ap (run same last) here ∙ run_same same last y (drop (i + 1) xs) e in
    omega (arith, more, so_far)

pub run_ends : {X : Type 0} (same : X → X → Bool) (last y : X) (xs : List X) (i : ℕ)
    (count whole : ℕ) → i < length xs → y ≡ get_or xs i y → same last y ≡ false
    → count + run same last (drop i xs) ≡ whole → count ≡ whole
run_ends same last y xs i count whole within is e so_far =
    let here : drop i xs ≡ y ∷ drop (i + 1) xs =
    drop_more xs i y within ∙ ap (λ z. z ∷ drop (i + 1) xs) (sym is) in
    let none : run same last (drop i xs) ≡ 0 =
    ap (run same last) here ∙ run_other same last y (drop (i + 1) xs) e in
    omega (arith, none, so_far)

pub run_past : {X : Type 0} (same : X → X → Bool) (last : X) (xs : List X) (i : ℕ) (count whole : ℕ)
    → length xs ≤ i
    → count + run same last (drop i xs) ≡ whole → count ≡ whole
run_past same last xs i count whole past so_far =
    let none : run same last (drop i xs) ≡ 0 =
    at_drop_all (run same last) xs i past ∙ run_none same last in
    omega (arith, none, so_far)
