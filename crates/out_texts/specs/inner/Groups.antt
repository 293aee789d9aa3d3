-- How long a group is.
use Rattle.std.specs.Prelude.{ℕ, suc, Bool, List, [], ◌∷◌, if◌then◌else◌}

-- how many elements continue the group of x
unfoldable pub run : {X : Type 0} → (X → X → Bool) → X → List X → ℕ
run same x [] = 0
run same x (y ∷ ys) = if same x y then suc (run same y ys) else 0
