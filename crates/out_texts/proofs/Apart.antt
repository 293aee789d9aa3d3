-- If elements that are the same are neighbours, no two groups are the same.
use Rattle.std.proofs.Common.{◌≡◌, Bool, true, false, cond, List, [], ◌∷◌, take, drop, refl, sym}
use Rattle.std.proofs.Common.{ap, ◌∙◌, subst, inl, inr, ◌⊎◌}
use Rattle.std.specs.List.{AllByRecursion}
use Rattle.std.specs.Cmp.{IsTotalOrder}
use Rattle.std.specs.Ordering.{is_eq, ordering_reverse}
use Rattle.std.specs.declared.cmp.Ordering.{Ordering}
use Rattle.std.specs.declared.cmp.Ordering.TheVariants.{Less, Equal, Greater}
use Rattle.series_id.proofs.Order.{equal_from}
use Rattle.series_id.proofs.Refusals.{each_more}
use Rattle.out_texts.specs.Groups.{members, put_before, groups}
use Rattle.out_texts.specs.inner.Groups.{run}
use Rattle.out_texts.specs.Once.{AreApart}
use Rattle.out_texts.proofs.Loops.{first_group}

-- ---- groups

-- what holds of each element holds of the first of each group
put_firsts : {X : Type 0} (same : X → X → Bool) (P : X → Type 0) (x : X) (gs : List (X × List X))
    → P x → AllByRecursion (λ g. P g.0) gs → AllByRecursion (λ g. P g.0) (put_before same x gs)
put_firsts same P x [] px h = (px, tt)
put_firsts same P x (g ∷ gs) px h = by (same x g.0)
  where
    by : (b : Bool) → AllByRecursion (λ k. P k.0) (cond b ((x, members g) ∷ gs) ((x, []) ∷ g ∷ gs))
    by true = (px, h.1)
    by false = (px, h)

firsts : {X : Type 0} (same : X → X → Bool) (P : X → Type 0) (xs : List X) → AllByRecursion P xs
    → AllByRecursion (λ g. P g.0) (groups same xs)
unfolding groups
firsts same P [] h = tt
firsts same P (x ∷ xs) h = put_firsts same P x (groups same xs) h.0 (firsts same P xs h.1)

put_apart : {X : Type 0} (same : X → X → Bool)
    → ((x y z : X) → same x y ≡ true → same x z ≡ same y z)
    → (x : X) (g : X × List X) (gs : List (X × List X))
    → (same x g.0 ≡ false → AllByRecursion (λ k. same x k.0 ≡ false) (g ∷ gs))
    → AreApart same (g ∷ gs) → AreApart same (put_before same x (g ∷ gs))
put_apart {X = X} same like x g gs none h = by (same x g.0) (λ z. like x g.0 z) none
  where
    by : (b : Bool) → ((z : X) → b ≡ true → same x z ≡ same g.0 z)
        → (b ≡ false → AllByRecursion (λ k. same x k.0 ≡ false) (g ∷ gs))
        → AreApart same (cond b ((x, members g) ∷ gs) ((x, []) ∷ g ∷ gs))
    by true as_first others = (
      each_more (λ k. same g.0 k.0 ≡ false) (λ k. same x k.0 ≡ false)
          (λ k e. as_first k.0 refl ∙ e) gs h.0,
      h.1,
    )
    by false as_first others = (others refl, h)

-- where the next is another, none of those that follow is the same
abbrev Leaves : {X : Type 0} → (X → X → Bool) → X → List X → Type 0
Leaves same x [] = Unit {0}
Leaves same x (y ∷ ys) = same x y ≡ false → AllByRecursion (λ z. same x z ≡ false) (y ∷ ys)

-- elements that are the same are neighbours
abbrev IsTogether : {X : Type 0} → (X → X → Bool) → List X → Type 0
IsTogether same [] = Unit {0}
IsTogether same (x ∷ xs) = Leaves same x xs × IsTogether same xs

together_apart : {X : Type 0} (same : X → X → Bool)
    → ((x y z : X) → same x y ≡ true → same x z ≡ same y z) → (xs : List X) → IsTogether same xs
    → AreApart same (groups same xs)
unfolding groups
together_apart same like [] h = tt
together_apart same like (x ∷ []) h = (tt, tt)
together_apart same like (x ∷ y ∷ ys) h =
    let e = first_group same y ys in
    subst (λ gs. AreApart same (put_before same x gs)) (sym e)
    (put_apart same like x (y, take (run same y ys) ys) (groups same (drop (run same y ys) ys))
    (λ other. subst (λ gs. AllByRecursion (λ k. same x k.0 ≡ false) gs) e
    (firsts same (λ z. same x z ≡ false) (y ∷ ys) (h.0 other)))
    (subst (AreApart same) e (together_apart same like (y ∷ ys) h.1)))

-- ---- elements in an order

abbrev pub NotAfter : Ordering → Type 0
NotAfter r = (r ≡ Less) ⊎ (r ≡ Equal)

-- each is before each later one, or ties with it
abbrev pub AreOrdered : {X : Type 0} → (X → X → Ordering) → List X → Type 0
AreOrdered D [] = Unit {0}
AreOrdered D (x ∷ xs) = AllByRecursion (λ y. NotAfter (D x y)) xs × AreOrdered D xs

less_unless : (r : Ordering) → is_eq r ≡ false → NotAfter r → r ≡ Less
less_unless r other (inl e) = e
less_unless Less other (inr e) = refl
less_unless Equal other (inr e) = cc other
less_unless Greater other (inr e) = cc e

still_less : {X : Type 0} (D : X → X → Ordering) → IsTotalOrder D → (a b c : X) → D a b ≡ Less
    → NotAfter (D b c) → is_eq (D a c) ≡ false
still_less D total a b c less (inl e) = ap is_eq (total.trans a b c less e)
still_less D total a b c less (inr e) =
    ap is_eq (total.antisymm a c ∙ ap ordering_reverse (sym (total.congr b c a e))
    ∙ sym (total.antisymm a b) ∙ less)

ordered_together : {X : Type 0} (D : X → X → Ordering) → IsTotalOrder D → (same : X → X → Bool)
    → ((x y : X) → same x y ≡ is_eq (D x y)) → (xs : List X) → AreOrdered D xs → IsTogether same xs
ordered_together D total same is [] h = tt
ordered_together D total same is (x ∷ []) h = (tt, tt)
ordered_together D total same is (x ∷ y ∷ ys) h = (
  (λ other. (
    other,
    each_more (λ z. NotAfter (D y z)) (λ z. same x z ≡ false)
        (λ z e. is x z ∙ still_less D total x y z (less_unless (D x y) (sym (is x y) ∙ other) h.0.0)
        e) ys h.1.0,
  )),
  ordered_together D total same is (y ∷ ys) h.1,
)

alike : {X : Type 0} (D : X → X → Ordering) → IsTotalOrder D → (same : X → X → Bool)
    → ((x y : X) → same x y ≡ is_eq (D x y)) → (x y z : X) → same x y ≡ true → same x z ≡ same y z
alike D total same is x y z e =
    is x z ∙ ap is_eq (total.congr x y z (equal_from _ (sym (is x y) ∙ e))) ∙ sym (is y z)

-- groups of what ties in an order, of elements in that order: no two are the same
pub ordered_apart : {X : Type 0} (D : X → X → Ordering) → IsTotalOrder D → (same : X → X → Bool)
    → ((x y : X) → same x y ≡ is_eq (D x y)) → (xs : List X) → AreOrdered D xs
    → AreApart same (groups same xs)
ordered_apart D total same is xs h =
    together_apart same (alike D total same is) xs (ordered_together D total same is xs h)
