-- Which flushes are live, and what was taken where nothing was.
use Rattle.std.proofs.Common.{◌≡◌, ◌<◌, ◌-◌, ℕ, Option, Some, None, List, [], ◌∷◌, Bool, true}
use Rattle.std.proofs.Common.{false, ◌&&◌, length, get_or, set, take, drop, refl, sym, subst, ap}
use Rattle.std.proofs.Common.{◌∙◌, inl, inr, arith}
use Rattle.delta_book.specs.Journal.{Journal}
use Rattle.delta_book.specs.declared.flush.Flush.{Flush}
use Rattle.book_desk.specs.declared.end.End.{End}
use Rattle.book_desk.specs.Each.{Each, EachBook}
use Rattle.book_desk.specs.Ends.{is_flying, are_live, IsEndedBy, IsStale, MayEndBy}
use Rattle.book_desk.specs.Takes.{Takes, HasNothing, count}
use Rattle.book_desk.proofs.Firsts.{rest_after}

pub and_first : (a b : Bool) → (a && b) ≡ true → a ≡ true
and_first true b h = refl
and_first false b h = h

pub and_second : (a b : Bool) → (a && b) ≡ true → b ≡ true
and_second true b h = h
and_second false b h = absurd (cc)

pub live_none : (os : List Journal) (fs : List (Option Flush)) → length os ≡ 0
    → true ≡ are_live os fs
unfolding are_live
live_none [] fs l = refl
live_none (o ∷ os) fs l = absurd (omega arith)

-- the first flush, and the rest
pub live_more : (os : List Journal) (fs : List (Option Flush)) (b d : Journal) (q f : Option Flush)
    (u v : Bool) → 0 < length os → length os ≡ length fs
    → u ≡ is_flying (get_or os 0 d) (get_or fs 0 f)
    → v ≡ are_live (take (length (set os 0 b) - 1) (drop 1 (set os 0 b)))
    (take (length (set fs 0 q) - 1) (drop 1 (set fs 0 q))) → (u && v) ≡ are_live os fs
unfolding are_live
live_more [] fs b d q f u v l e h i = absurd (omega arith)
live_more (o ∷ os) [] b d q f u v l e h i = absurd (omega arith)
live_more (o ∷ os) (p ∷ fs) b d q f u v l e h i =
    subst (λ (w : Bool). (u && w) ≡ are_live (o ∷ os) (p ∷ fs))
    (sym (i ∙ (ap (λ (xs : List Journal). are_live xs
    (take (length (set (p ∷ fs) 0 q) - 1) (drop 1 (set (p ∷ fs) 0 q)))) (rest_after os o b)
    ∙ ap (λ (xs : List (Option Flush)). are_live os xs) (rest_after fs p q))))
    (ap (λ (w : Bool). w && are_live os fs) h)

pub may_end : (end : End) (old new : Journal) (f : Option Flush) (r : Bool)
    → (r ≡ true → IsEndedBy end old new f) → (r ≡ false → IsStale old new f)
    → MayEndBy end old new f
may_end end old new f true t s = inl (t refl)
may_end end old new f false t s = inr (s refl)

-- where no flush came, there was nothing to take
pub nothing_taken : (max : ℕ) (os ns : List Journal) (fs : List (Option Flush)) → count fs ≡ 0
    → Each (Takes max) os ns fs → EachBook (HasNothing max) os ns
unfolding Each EachBook
nothing_taken max [] [] [] z t = t
nothing_taken max [] [] (f ∷ fs) z t = absurd t
nothing_taken max [] (n ∷ ns) fs z t = absurd t
nothing_taken max (o ∷ os) [] fs z t = absurd t
nothing_taken max (o ∷ os) (n ∷ ns) [] z t = absurd t
nothing_taken max (o ∷ os) (n ∷ ns) (None ∷ fs) z t = (t.0, nothing_taken max os ns fs z t.1)
nothing_taken max (o ∷ os) (n ∷ ns) (Some f ∷ fs) z t = absurd (omega arith)

pub nothing_came : (max : ℕ) (os from ns whole : List Journal) (fs : List (Option Flush))
    → from ≡ os → whole ≡ ns → count fs ≡ 0 → Each (Takes max) from ns fs
    → EachBook (HasNothing max) os whole
nothing_came max os from ns whole fs h e z t =
    subst (λ (xs : List Journal). EachBook (HasNothing max) os xs) (sym e)
    (subst (λ (xs : List Journal). EachBook (HasNothing max) xs ns) h
    (nothing_taken max from ns fs z t))
