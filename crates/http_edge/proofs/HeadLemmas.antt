-- A head within the limits, and what follows it.
use Rattle.std.proofs.Common.{ℕ, ◌<◌, ◌≤◌, List, ◌++◌, length, drop, arith}
use Rattle.httparse.specs.Grammar.{RequestHead, print_request, HasNoRequest, NeverHasRequest}
use Rattle.http_edge.specs.Message.{IsHeadAt}
use Rattle.http_edge.specs.Head.{HasTooManyFields, HasLongHead}
use Rattle.http_edge.proofs.ListLemmas.{front_of}

-- what is no front that fits is longer
pub long_or_front : (p buf : List ℕ) → 16384 ≤ length buf → ¬ (length p ≤ length buf)
    → 16384 < length p
long_or_front p buf long not = omega (arith, not)

-- where as many bytes as a head may have have no head, a head is longer
pub has_long_head : (buf : List ℕ) → HasNoRequest buf → 16384 ≤ length buf → HasLongHead buf
has_long_head buf none long = (
  long,
  λ more head after reads.
      long_or_front (print_request head) buf long
      (λ short. none head (drop (length (print_request head)) buf)
      (reads.0, front_of buf more (print_request head) after reads.1 short)),
)

-- ---- where there is never a head

-- whatever bytes follow, they do not begin with a head within the limits
abbrev pub NeverHead : List ℕ → Type 0
NeverHead buf = (more : List ℕ) (head : RequestHead) (after : List ℕ)
    → ¬ (IsHeadAt (buf ++ more) head after)

pub never_bad : (buf : List ℕ) → NeverHasRequest buf → NeverHead buf
never_bad buf never more head after h = never more head after h.reads

pub never_few : (buf : List ℕ) → HasTooManyFields buf → NeverHead buf
never_few buf many more head after h = omega (arith, many.0 more head after h.reads, h.few)

pub never_short : (buf : List ℕ) → HasLongHead buf → NeverHead buf
never_short buf long more head after h = omega (arith, long.1 more head after h.reads, h.short)
