use Rattle.std.proofs.Common.{◌≡◌, ℕ, ◌+◌, ◌<◌, min, Option, Some, None, option_map, refl, arith}
use Rattle.decimals.specs.Numbers.{number}
use Rattle.http_edge.specs.declared.framing.Framing.TheVariants.{Sized}
use Rattle.http_edge.proofs.framing.framing_by_length.Goals as goal

-- a number that was read up to one more than the limit, and is over it
too_long : (o : Option ℕ) (size : ℕ) → Some size ≡ option_map (λ n. min n (4194304 + 1)) o
    → 4194304 < size → (n : ℕ) × (option_map (λ k. Sized k) o ≡ Some (Sized n)) × (4194304 < n)
too_long None size is long = absurd cc
too_long (Some n) size is long = let same : size ≡ min n (4194304 + 1) = cc in
    (n, refl, omega (arith, same, long))

pub returns-then-size : goal.returns-then-size
returns-then-size c =
    too_long (number c.args.text.now) c.in-Some.size c.in-Some.ensures c.if-size.true
