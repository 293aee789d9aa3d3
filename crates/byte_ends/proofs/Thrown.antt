-- Bytes that were taken one piece after another.
use Rattle.std.proofs.Common.{◌≡◌, ℕ, ◌+◌, ◌-◌, ◌≤◌, List, [], ◌++◌, length, Option, Some, None}
use Rattle.std.proofs.Common.{refl, ap, sym, ◌∙◌, append_assoc, append-nil, length-append, arith}
use Rattle.std.specs.Io.KnownBytes.{Consumes, IsAtEnd}
use Rattle.byte_ends.specs.Ends.{AreAll}
use Rattle.byte_ends.specs.Drained.{IsDrained}

consumes_more : (old now next : Option (List ℕ)) (a b : List ℕ) → Consumes old now a
    → Consumes now next b → Consumes old next (a ++ b)
consumes_more None now next a b h k = tt
consumes_more (Some xs) None next a b h k = absurd h
consumes_more (Some xs) (Some ys) None a b h k = absurd k
consumes_more (Some xs) (Some ys) (Some zs) a b h k =
    h ∙ ap (λ w. a ++ w) k ∙ sym (append_assoc a b zs)

consumes_none : (old : Option (List ℕ)) → Consumes old old []
consumes_none None = tt
consumes_none (Some xs) = refl

-- so far, with so much left
abbrev pub SoFar : Option (List ℕ) → Option (List ℕ) → ℕ → ℕ → Type 0
SoFar old now most left =
    (thrown : List ℕ) × (length thrown + left ≡ most) × Consumes old now thrown

pub none_so_far : (old : Option (List ℕ)) (most : ℕ) → SoFar old old most most
none_so_far old most = ([], omega arith, consumes_none old)

pub more_so_far : (old now next : Option (List ℕ)) (most left n : ℕ) (piece : List ℕ)
    → SoFar old now most left → Consumes now next piece → length piece ≡ n → n ≤ left
    → SoFar old next most (left - n)
more_so_far old now next most left n piece s k is within = (
  s.0 ++ piece,
  omega (arith, s.1, length-append s.0 piece, is, within),
  consumes_more old now
      next s.0 piece s.2 k,
)

all_at_end : (old now : Option (List ℕ)) (thrown : List ℕ) → Consumes old now thrown → IsAtEnd now
    → AreAll old thrown
all_at_end None now thrown h e = tt
all_at_end (Some xs) None thrown h e = absurd h
all_at_end (Some xs) (Some ys) thrown h e = h ∙ ap (λ w. thrown ++ w) e ∙ append-nil thrown

nothing_more : (old now : Option (List ℕ)) (thrown : List ℕ) → Consumes old now (thrown ++ [])
    → Consumes old now thrown
nothing_more old now thrown h = rw (append-nil thrown) at h

-- the last read gave nothing
pub drained : (old now next : Option (List ℕ)) (most left : ℕ) (well : Type 0)
    → SoFar old now most left → Consumes now next [] → IsAtEnd now → IsDrained old next most well
drained old now next most left well s k e = (
  s.0,
  omega (arith, s.1),
  nothing_more old next s.0 (consumes_more old now next s.0 [] s.2 k),
  λ _ _. all_at_end old now s.0 s.2 e,
)
