-- Loops over the messages of a list, and over points.
use Rattle.std.proofs.Common.{◌≡◌, ℕ, suc, ◌+◌, ◌-◌, ◌^◌, ◌<◌, min, List, [], ◌∷◌, map, length}
use Rattle.std.proofs.Common.{Option, Result, Ok, refl, ap, sym, ◌∙◌, arith}
use Rattle.serde_json.specs.Data.{Data}
use Rattle.metric_events.specs.DataPoint.{DataPoint}
use Rattle.otlp_read.specs.declared.place.Place.{Place}
use Rattle.otlp_read.specs.Containers.{◌>>=◌}
use Rattle.otlp_read.specs.Tallies.{Tally, plus, add_foreign, add_point, each_point}
use Rattle.otlp_read.specs.Reading.{each}

-- one more of the messages
pub each_more : (step : Data → Tally → Result Tally Place) (shows : List ℕ → Data)
    (bs : List (List ℕ)) (b : List ℕ) (rest : List (List ℕ)) (t u : Tally)
    (total : Result Tally Place)
    → bs ≡ b ∷ rest → step (shows b) t ≡ Ok u → each step (map shows bs) t ≡ total
    → each step (map shows rest) u ≡ total
unfolding each
each_more step shows bs b rest t u total is stepped so_far =
    sym (ap (λ r. r >>= λ after. each step (map shows rest) after) stepped)
    ∙ ap (λ xs. each step (map shows xs) t) (sym is) ∙ so_far

pub each_done : (step : Data → Tally → Result Tally Place) (shows : List ℕ → Data)
    (bs : List (List ℕ)) (t : Tally) (total : Result Tally Place)
    → bs ≡ [] → each step (map shows bs) t ≡ total → total ≡ Ok t
unfolding each
each_done step shows bs t total none so_far =
    sym so_far ∙ ap (λ xs. each step (map shows xs) t) none

-- one more of the points
pub point_more : (reads : Data → Option DataPoint) (shows : List ℕ → Data) (bs : List (List ℕ))
    (b : List ℕ) (rest : List (List ℕ)) (p : Option DataPoint) (t u total : Tally)
    → bs ≡ b ∷ rest → p ≡ reads (shows b) → u ≡ add_point p t
    → each_point reads (map shows bs) t ≡ total → each_point reads (map shows rest) u ≡ total
unfolding each_point
point_more reads shows bs b rest p t u total is point added so_far =
    ap (each_point reads (map shows rest)) (added ∙ ap (λ q. add_point q t) point)
    ∙ ap (λ xs. each_point reads (map shows xs) t) (sym is) ∙ so_far

pub point_done : (reads : Data → Option DataPoint) (shows : List ℕ → Data) (bs : List (List ℕ))
    (t total : Tally)
    → bs ≡ [] → each_point reads (map shows bs) t ≡ total → t ≡ total
unfolding each_point
point_done reads shows bs t total none so_far =
    sym (ap (λ xs. each_point reads (map shows xs) t) none) ∙ so_far

-- one more is counted
pub count_more : (k next : ℕ) (bs : List (List ℕ)) (b : List ℕ) (rest : List (List ℕ)) (total : ℕ)
    → next ≡ min (k + 1) (2 ^ 64 - 1) → bs ≡ b ∷ rest → min (k + length bs) (2 ^ 64 - 1) ≡ total
    → min (next + length rest) (2 ^ 64 - 1) ≡ total
count_more k next bs b rest total step is so_far = let longer : length bs ≡ suc (length rest) =
    ap length is in omega arith

-- all are
pub count_done : (k : ℕ) (bs : List (List ℕ)) (total : ℕ) → k < 2 ^ 64 → bs ≡ []
    → min (k + length bs) (2 ^ 64 - 1) ≡ total → k ≡ total
count_done k bs total few none so_far = let ended : length bs ≡ 0 = ap length none in omega arith

abbrev with_foreign : Tally → ℕ → Tally
with_foreign t f = record { points = t.points; foreign = f; metrics = t.metrics }

length-map : {A B : Type 0} (f : A → B) (xs : List A) → length (map f xs) ≡ length xs
length-map f [] = refl
length-map f (x ∷ xs) = ap (λ n. suc n) (length-map f xs)

-- and they are added
pub foreign_counted : (point : List ℕ → Data) (bs : List (List ℕ)) (k f : ℕ) (t : Tally)
    → k ≡ min (length bs) (2 ^ 64 - 1) → f ≡ min (t.foreign + k) (2 ^ 64 - 1)
    → with_foreign t f ≡ add_foreign (length (map point bs)) t
foreign_counted point bs k f t counted added =
    let total : f ≡ plus t.foreign (length (map point bs)) = omega (arith, length-map point bs) in
    ap (with_foreign t) total
