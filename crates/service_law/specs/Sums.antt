-- Cumulative points, what the journal has of them, and what they add up to.
use Rattle.std.specs.Prelude.{ℕ, ℤ, pos, zero, suc, ◌+ℤ◌, ◌-ℤ◌, ◌<◌, ◌≤◌, List, [], ◌∷◌}
use Rattle.std.specs.Prelude.{Some, None, Option}

-- a cumulative point: when its run began, when it was read, and its words, signed. Of a sum one
-- word, its value; of a histogram how many, the sum, and the buckets
pub record Reading : Type 0 where
  pub start : ℕ
  pub time : ℕ
  pub words : List ℤ

-- an entry of the journal: the words from which a run counts; a run from its start on, and from
-- when on it counts, with all of its words; what was added to a run that is known
pub data Entry : Type 0 where
  Noted : (start time : ℕ) (words : List ℤ) → Entry
  Counted : (start from time : ℕ) (words : List ℤ) → Entry
  More : (from time : ℕ) (words : List ℤ) → Entry

abbrev pub zeros : ℕ → List ℤ
zeros zero = []
zeros (suc n) = pos 0 ∷ zeros n

-- word by word
abbrev pub plus : List ℤ → List ℤ → List ℤ
plus [] ys = ys
plus (x ∷ xs) [] = x ∷ xs
plus (x ∷ xs) (y ∷ ys) = (x +ℤ y) ∷ plus xs ys

abbrev pub minus : List ℤ → List ℤ → List ℤ
minus [] ys = []
minus (x ∷ xs) [] = x ∷ xs
minus (x ∷ xs) (y ∷ ys) = (x -ℤ y) ∷ minus xs ys

-- the sum of rows of n words
abbrev pub sum_of_rows : ℕ → List (List ℤ) → List ℤ
sum_of_rows n [] = zeros n
sum_of_rows n (row ∷ rows) = plus row (sum_of_rows n rows)

-- what these entries count
abbrev pub total : ℕ → List Entry → List ℤ
total n [] = zeros n
total n (Noted start time words ∷ es) = total n es
total n (Counted start from time words ∷ es) = plus words (total n es)
total n (More from time words ∷ es) = plus words (total n es)

-- a span that the book takes: it begins at t or later, and not at 0, and has a length
pub record IsSpanFrom (t from time : ℕ) : Type 0 where
  pub late : t ≤ from
  pub known : 0 < from
  pub long : from < time

-- from this time on, each begins where the one before it ended, or later
abbrev pub InTurn : ℕ → List Entry → Type 0
InTurn t [] = Unit {0}
InTurn t (Noted start time words ∷ es) = (t ≤ time) × InTurn time es
InTurn t (Counted start from time words ∷ es) = IsSpanFrom t from time × InTurn time es
InTurn t (More from time words ∷ es) = IsSpanFrom t from time × InTurn time es

-- when the point of an entry was read
abbrev pub entry_time : Entry → ℕ
entry_time (Noted start time words) = time
entry_time (Counted start from time words) = time
entry_time (More from time words) = time

-- when the point was read that is kept
abbrev pub time_of : Option Reading → ℕ
time_of None = 0
time_of (Some q) = q.time
