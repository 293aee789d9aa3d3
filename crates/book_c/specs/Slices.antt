-- What is written into a slice of the caller.
use Rattle.std.specs.Prelude.{◌≡◌, ℕ, ◌<◌, List, ◌++◌, drop, length}

-- so many items stand at the front of the slice, and the rest of it is as it was
abbrev pub AreAtFront : (items old new : List ℕ) → (number : ℕ) → Type 0
AreAtFront items old new number = (number ≡ length items) × (new ≡ items ++ drop number old)

-- there are so many items, and the slice has less room
abbrev pub AreTooMany : (items old : List ℕ) → (number : ℕ) → Type 0
AreTooMany items old number = (number ≡ length items) × (length old < number)
