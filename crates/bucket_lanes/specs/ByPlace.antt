-- Rows of words, compared and added index by index.
use Rattle.std.specs.Prelude.{◌≡◌, ℕ, ◌+◌, ◌<◌, ◌≤◌, List, length, slice_index}

-- each sum of two words is at most the limit
abbrev pub Fits : ℕ → List ℕ → List ℕ → Type 0
Fits most xs ys = (k : ℕ) → k < length xs → slice_index xs k + slice_index ys k ≤ most

-- each word is at least the other row's word
abbrev pub Covers : List ℕ → List ℕ → Type 0
Covers xs ys = (k : ℕ) → k < length xs → slice_index ys k ≤ slice_index xs k

-- each word is the sum of the other rows' words
abbrev pub AreSums : List ℕ → List ℕ → List ℕ → Type 0
AreSums xs ys sums =
    (k : ℕ) → k < length xs → slice_index sums k ≡ slice_index xs k + slice_index ys k

-- each word is the difference of the other rows' words
abbrev pub AreDifferences : List ℕ → List ℕ → List ℕ → Type 0
AreDifferences xs ys differences =
    (k : ℕ) → k < length xs → slice_index differences k + slice_index ys k ≡ slice_index xs k

-- each word is 0
abbrev pub IsClear : List ℕ → Type 0
IsClear xs = (k : ℕ) → k < length xs → slice_index xs k ≡ 0
