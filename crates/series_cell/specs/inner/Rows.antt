-- Five rows of words, one after another in one block.
use Rattle.std.specs.Prelude.{ℕ, ◌*◌, ◌/◌, List, length, take, drop}
use Rattle.metric_events.specs.Rows.{zeros}

-- the rows of a cell
pub record FiveRows : Type 0 where
  pub accepted : List ℕ
  pub stored : List ℕ
  pub in_flight : List ℕ
  pub acknowledged : List ℕ
  pub dropped : List ℕ

-- how many words each row of a block has
abbrev pub row_size : List ℕ → ℕ
row_size words = length words / 5

-- row k of a block
abbrev pub row_of : ℕ → List ℕ → List ℕ
row_of k words = take (row_size words) (drop (k * row_size words) words)

-- the rows of a block
abbrev pub rows_of : List ℕ → FiveRows
rows_of words = record {
  accepted = row_of 0 words;
  stored = row_of 1 words;
  in_flight = row_of 2 words;
  acknowledged = row_of 3 words;
  dropped = row_of 4 words;
}

-- rows of n words, each of them 0
abbrev pub zero_rows : ℕ → FiveRows
zero_rows n = record {
  accepted = zeros n;
  stored = zeros n;
  in_flight = zeros n;
  acknowledged = zeros n;
  dropped = zeros n;
}
