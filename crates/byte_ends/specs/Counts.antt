-- How a reader or a writer counts its failed calls.
use Rattle.std.specs.Prelude.{ℕ, ◌+◌, ◌%◌, ◌^◌, Bool, cond}

-- the count after a call: one more if the call failed
abbrev pub counted : (ℕ → ℕ) → Bool → ℕ → ℕ
counted one_more failed count = cond failed (one_more count) count

-- the count after one more failure, in a counter of 64 bits that wraps around
abbrev pub next_count : ℕ → ℕ
next_count n = (n + 1) % 2 ^ 64
