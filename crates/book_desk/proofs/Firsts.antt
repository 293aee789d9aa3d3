-- A call on the first of a list, and on the rest.
use Rattle.std.proofs.Common.{◌≡◌, ◌<◌, ◌-◌, ◌+◌, List, [], ◌∷◌, length, get_or, set, take, drop}
use Rattle.std.proofs.Common.{sym, subst, arith, rules, ap, suc, ◌∙◌}
use Rattle.std.specs.List.{All}
use Rattle.std.proofs.lemmas.List.{take_rest}
use Rattle.std.proofs.lemmas.Slice.{overwrites}
use borrow.Rule.Slice.PartMut.{put_mid}
use Rattle.delta_book.specs.Journal.{Journal}
use Rattle.book_desk.specs.Each.{Each, EachBook}

-- the rest of a list whose first element was written
pub rest_after : {A : Type 0} (xs : List A) (x y : A)
    → take (length (set (x ∷ xs) 0 y) - 1) (drop 1 (set (x ∷ xs) 0 y)) ≡ xs
rest_after xs x y = take_rest (y ∷ xs) 1

-- the list after a write to its first element and a call on the rest
pub put_rest : {A : Type 0} (xs ys : List A) (x y : A)
    → put_mid 1 (length (set (x ∷ xs) 0 y) - 1) (set (x ∷ xs) 0 y) ys ≡ y ∷ ys
put_rest xs ys x y = search (rules, overwrites)

pub put_first : {A : Type 0} (xs ys : List A) (y d : A) → 0 < length xs
    → get_or (put_mid 1 (length (set xs 0 y) - 1) (set xs 0 y) ys) 0 d ≡ y
put_first [] ys y d l = absurd (omega arith)
put_first (x ∷ xs) ys y d l = ap (λ zs. get_or zs 0 d) (put_rest xs ys x y)

pub rest_length : {A : Type 0} (xs : List A) (y : A) → 0 < length xs
    → length (take (length (set xs 0 y) - 1) (drop 1 (set xs 0 y))) + 1 ≡ length xs
rest_length [] y l = absurd (omega arith)
rest_length (x ∷ xs) y l = omega (arith, ap length (rest_after xs x y))

pub rest_all : {A : Type 0} (P : A → Type 0) (xs : List A) (y : A) → 0 < length xs → All P xs
    → All P (take (length (set xs 0 y) - 1) (drop 1 (set xs 0 y)))
rest_all P [] y l h = absurd (omega arith)
rest_all {A = A} P (x ∷ xs) y l h =
    subst (λ (zs : List A). All P zs) (sym (rest_after xs x y)) (λ k d i. h (suc k) d (omega arith))

-- R of the first and of each of the rest
pub each_first : {P : Type 0} (R : Journal → Journal → P → Type 0) (os ys : List Journal)
    (ps : List P) (b n d : Journal) (q f : P) → 0 < length os → length os ≡ length ps
    → R (get_or os 0 d) n (get_or ps 0 f)
    → Each R (take (length (set os 0 b) - 1) (drop 1 (set os 0 b))) ys
    (take (length (set ps 0 q) - 1) (drop 1 (set ps 0 q)))
    → Each R os (set (put_mid 1 (length (set os 0 b) - 1) (set os 0 b) ys) 0 n) ps
unfolding Each
each_first R [] ys ps b n d q f l e r rs = absurd (omega arith)
each_first R (o ∷ os) ys [] b n d q f l e r rs = absurd (omega arith)
each_first {P = P} R (o ∷ os) ys (p ∷ ps) b n d q f l e r rs =
    subst (λ (zs : List Journal). Each R (o ∷ os) (set zs 0 n) (p ∷ ps))
    (sym (put_rest os ys o b)) (
      r,
      subst (λ (xs : List Journal). Each R xs ys ps) (rest_after os o b)
          (subst (λ (qs : List P). Each R
          (take (length (set (o ∷ os) 0 b) - 1) (drop 1 (set (o ∷ os) 0 b))) ys qs)
          (rest_after ps p q) rs),
    )

-- the same where the first is not written again
pub each_rest : {P : Type 0} (R : Journal → Journal → P → Type 0) (os ys : List Journal)
    (ps : List P) (b d : Journal) (q f : P) → 0 < length os → length os ≡ length ps
    → R (get_or os 0 d) b (get_or ps 0 f)
    → Each R (take (length (set os 0 b) - 1) (drop 1 (set os 0 b))) ys
    (take (length (set ps 0 q) - 1) (drop 1 (set ps 0 q)))
    → Each R os (put_mid 1 (length (set os 0 b) - 1) (set os 0 b) ys) ps
unfolding Each
each_rest R [] ys ps b d q f l e r rs = absurd (omega arith)
each_rest R (o ∷ os) ys [] b d q f l e r rs = absurd (omega arith)
each_rest {P = P} R (o ∷ os) ys (p ∷ ps) b d q f l e r rs =
    subst (λ (zs : List Journal). Each R (o ∷ os) zs (p ∷ ps)) (sym (put_rest os ys o b)) (
      r,
      subst (λ (xs : List Journal). Each R xs ys ps) (rest_after os o b)
          (subst (λ (qs : List P). Each R
          (take (length (set (o ∷ os) 0 b) - 1) (drop 1 (set (o ∷ os) 0 b))) ys qs)
          (rest_after ps p q) rs),
    )

-- where neither the first nor the rest changes in the end
pub same_first : (os ys : List Journal) (b n d : Journal) → 0 < length os → n ≡ get_or os 0 d
    → ys ≡ take (length (set os 0 b) - 1) (drop 1 (set os 0 b))
    → set (put_mid 1 (length (set os 0 b) - 1) (set os 0 b) ys) 0 n ≡ os
same_first [] ys b n d l e s = absurd (omega arith)
same_first (o ∷ os) ys b n d l e s =
    let r : ys ≡ os = s ∙ rest_after os o b in
    ap (λ (zs : List Journal). set zs 0 n) (put_rest os ys o b) ∙ cc

-- the same where the first is not written again
pub same_rest : (os ys : List Journal) (b d : Journal) → 0 < length os → b ≡ get_or os 0 d
    → ys ≡ take (length (set os 0 b) - 1) (drop 1 (set os 0 b))
    → put_mid 1 (length (set os 0 b) - 1) (set os 0 b) ys ≡ os
same_rest [] ys b d l e s = absurd (omega arith)
same_rest (o ∷ os) ys b d l e s =
    let r : ys ≡ os = s ∙ rest_after os o b in
    put_rest os ys o b ∙ cc

-- of none
pub each_none : {P : Type 0} (R : Journal → Journal → P → Type 0) (os : List Journal) (ps : List P)
    → length os ≡ 0 → length os ≡ length ps → Each R os os ps
unfolding Each
each_none R [] [] l e = tt
each_none R [] (p ∷ ps) l e = absurd (omega arith)
each_none R (o ∷ os) ps l e = absurd (omega arith)

-- where books have no parts: of the first and of each of the rest
pub book_first : (R : Journal → Journal → Type 0) (os ys : List Journal) (b n d : Journal)
    → 0 < length os → R (get_or os 0 d) n
    → EachBook R (take (length (set os 0 b) - 1) (drop 1 (set os 0 b))) ys
    → EachBook R os (set (put_mid 1 (length (set os 0 b) - 1) (set os 0 b) ys) 0 n)
unfolding EachBook
book_first R [] ys b n d l r rs = absurd (omega arith)
book_first R (o ∷ os) ys b n d l r rs =
    subst (λ (zs : List Journal). EachBook R (o ∷ os) (set zs 0 n)) (sym (put_rest os ys o b))
    (r, subst (λ (xs : List Journal). EachBook R xs ys) (rest_after os o b) rs)

-- the same where the first is not written again
pub book_rest : (R : Journal → Journal → Type 0) (os ys : List Journal) (b d : Journal)
    → 0 < length os → R (get_or os 0 d) b
    → EachBook R (take (length (set os 0 b) - 1) (drop 1 (set os 0 b))) ys
    → EachBook R os (put_mid 1 (length (set os 0 b) - 1) (set os 0 b) ys)
unfolding EachBook
book_rest R [] ys b d l r rs = absurd (omega arith)
book_rest R (o ∷ os) ys b d l r rs =
    subst (λ (zs : List Journal). EachBook R (o ∷ os) zs) (sym (put_rest os ys o b))
    (r, subst (λ (xs : List Journal). EachBook R xs ys) (rest_after os o b) rs)

-- of none
pub book_none : (R : Journal → Journal → Type 0) (os : List Journal) → length os ≡ 0
    → EachBook R os os
unfolding EachBook
book_none R [] l = tt
book_none R (o ∷ os) l = absurd (omega arith)

-- where nothing changes
pub book_same : (R : Journal → Journal → Type 0) (os : List Journal) → ((o : Journal) → R o o)
    → EachBook R os os
unfolding EachBook
book_same R [] r = tt
book_same R (o ∷ os) r = (r o, book_same R os r)

pub book_unchanged : (R : Journal → Journal → Type 0) (os : List Journal) (b d : Journal)
    → ((o : Journal) → R o o) → 0 < length os → b ≡ get_or os 0 d → EachBook R os (set os 0 b)
book_unchanged R [] b d r l e = absurd (omega arith)
book_unchanged R (o ∷ os) b d r l e =
    subst (λ (x : Journal). EachBook R (o ∷ os) (x ∷ os)) (sym e) (book_same R (o ∷ os) r)

-- the parts are written too: of the first and of each of the rest
pub each_put : {P : Type 0} (R : Journal → Journal → P → Type 0) (os ys : List Journal)
    (ps qs : List P) (b d : Journal) (q : P) → 0 < length os → length os ≡ length ps
    → R (get_or os 0 d) b q → Each R (take (length (set os 0 b) - 1) (drop 1 (set os 0 b))) ys
    qs → Each R os (put_mid 1 (length (set os 0 b) - 1) (set os 0 b) ys)
    (set (put_mid 1 (length ps - 1) ps qs) 0 q)
unfolding Each
each_put R [] ys ps qs b d q l e r rs = absurd (omega arith)
each_put R (o ∷ os) ys [] qs b d q l e r rs = absurd (omega arith)
each_put {P = P} R (o ∷ os) ys (p ∷ ps) qs b d q l e r rs =
    subst (λ (zs : List Journal). Each R (o ∷ os) zs
    (set (put_mid 1 (length (p ∷ ps) - 1) (p ∷ ps) qs) 0 q)) (sym (put_rest os ys o b))
    (subst (λ (us : List P). Each R (o ∷ os) (b ∷ ys) (set us 0 q)) (sym (put_rest ps qs p p))
    (r, subst (λ (xs : List Journal). Each R xs ys qs) (rest_after os o b) rs))
