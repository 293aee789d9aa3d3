-- Loops over the objects of an array, and over the points of a data field.
use Rattle.std.proofs.Common.{◌≡◌, ℕ, ◌+◌, ◌<◌, ◌≤◌, List, ◌∷◌, map, drop, length, get_or, Option}
use Rattle.std.proofs.Common.{Result, Ok, Err, ap, sym, ◌∙◌}
use Rattle.std.proofs.lemmas.List.{drop_more, at_drop_all}
use Rattle.serde_json.specs.Data.{Data}
use Rattle.serde_json.specs.declared.value.Value.{Value}
use Rattle.serde_json.specs.View.{view}
use Rattle.metric_events.specs.DataPoint.{DataPoint}
use Rattle.otlp_read.specs.declared.place.Place.{Place}
use Rattle.otlp_read.specs.declared.fault.ReadFault.{ReadFault}
use Rattle.otlp_read.specs.declared.fault.ReadFault.TheVariants as faults
use Rattle.otlp_read.specs.Containers.{◌>>=◌}
use Rattle.otlp_read.specs.inner.Containers.{Fails}
use Rattle.otlp_read.specs.Tallies.{Tally, add_point, each_point}
use Rattle.otlp_read.specs.Reading.{each}

-- one more of the points
pub each_point_more : (reads : Data → Option DataPoint) (vs : List Value) (i : ℕ) (v : Value)
    (p : Option DataPoint) (t u total : Tally)
    → i < length vs → v ≡ get_or vs i v → p ≡ reads (view v) → u ≡ add_point p t
    → each_point reads (map view (drop i vs)) t ≡ total
    → each_point reads (map view (drop (i + 1) vs)) u ≡ total
unfolding each_point
each_point_more reads vs i v p t u total within is point added so_far =
    let rest = drop (i + 1) vs in
    let here : drop i vs ≡ v ∷ rest = drop_more vs i v within ∙ ap (λ x. x ∷ rest) (sym is) in
    let now : each_point reads (map view rest) (add_point (reads (view v)) t) ≡ total =
    ap (λ ws. each_point reads (map view ws) t) (sym here) ∙ so_far in
    ap (each_point reads (map view rest)) (added ∙ ap (λ q. add_point q t) point) ∙ now

pub each_point_done : (reads : Data → Option DataPoint) (vs : List Value) (i : ℕ) (t total : Tally)
    → length vs ≤ i → each_point reads (map view (drop i vs)) t ≡ total → t ≡ total
unfolding each_point
each_point_done reads vs i t total past so_far =
    sym (at_drop_all (λ ws. each_point reads (map view ws) t) vs i past) ∙ so_far

-- one more of the objects of an array
pub each_more : (step : Data → Tally → Result Tally Place) (vs : List Value) (i : ℕ) (v : Value)
    (t u : Tally) (total : Result Tally Place)
    → i < length vs → v ≡ get_or vs i v → step (view v) t ≡ Ok u
    → each step (map view (drop i vs)) t ≡ total → each step (map view (drop (i + 1) vs)) u ≡ total
unfolding each
each_more step vs i v t u total within is stepped so_far =
    let rest = drop (i + 1) vs in
    let here : drop i vs ≡ v ∷ rest = drop_more vs i v within ∙ ap (λ x. x ∷ rest) (sym is) in
    let now : (step (view v) t >>= λ after. each step (map view rest) after) ≡ total =
    ap (λ ws. each step (map view ws) t) (sym here) ∙ so_far in
    let one : (step (view v) t >>= λ after. each step (map view rest) after)
    ≡ each step (map view rest) u =
    ap (λ r. r >>= λ after. each step (map view rest) after) stepped in
    sym one ∙ now

-- the object that failed
pub each_fails : (step : Data → Tally → Result Tally Place) (vs : List Value) (i : ℕ) (v : Value)
    (t : Tally) (e : ReadFault) (total : Result Tally Place)
    → i < length vs → v ≡ get_or vs i v → Fails e (step (view v) t)
    → each step (map view (drop i vs)) t ≡ total → Fails e total
unfolding each
each_fails step vs i v t faults.NoMemory total within is failed so_far = tt
each_fails step vs i v t faults.NotJson total within is failed so_far = failed
each_fails step vs i v t (faults.WrongShape place) total within is failed so_far =
    let rest = drop (i + 1) vs in
    let here : drop i vs ≡ v ∷ rest = drop_more vs i v within ∙ ap (λ x. x ∷ rest) (sym is) in
    let now : (step (view v) t >>= λ after. each step (map view rest) after) ≡ total =
    ap (λ ws. each step (map view ws) t) (sym here) ∙ so_far in
    let one : (step (view v) t >>= λ after. each step (map view rest) after) ≡ Err place =
    ap (λ r. r >>= λ after. each step (map view rest) after) failed in
    sym now ∙ one

pub each_done : (step : Data → Tally → Result Tally Place) (vs : List Value) (i : ℕ) (t : Tally)
    (total : Result Tally Place)
    → length vs ≤ i → each step (map view (drop i vs)) t ≡ total → total ≡ Ok t
unfolding each
each_done step vs i t total past so_far =
    sym so_far ∙ at_drop_all (λ ws. each step (map view ws) t) vs i past
