-- Loops over the items of an array.
use Rattle.std.proofs.Common.{◌≡◌, List, [], ◌∷◌, Bool, true, Option, Some, None, option_map}
use Rattle.std.proofs.Common.{Result, Ok, refl, ap, sym, ◌∙◌}
use Rattle.std.specs.Prelude.{MatchOption}
use Rattle.std.specs.List.{list_all}
use Rattle.json.specs.Token.{Token}
use Rattle.serde_json.specs.Data.{Data, Items}
use Rattle.serde_json.specs.Find.{as_array}
use Rattle.metric_events.specs.DataPoint.{DataPoint}
use Rattle.otlp_read.specs.declared.place.Place.{Place}
use Rattle.otlp_read.specs.Containers.{◌>>=◌, elements, each_object, is_object, objects}
use Rattle.otlp_read.specs.Tallies.{Tally, add_point, each_point}
use Rattle.otlp_read.specs.Reading.{each}
use Rattle.json_points.specs.inner.Nodes.{data_at, AreItems}

-- no item is left
pub over : (new : List Token) (r : Option (List Token)) (ds : List Data)
    → MatchOption r (ds ≡ []) (λ n. (rest : List Data) × (ds ≡ data_at n ∷ rest)
    × AreItems new rest) → r ≡ None → ds ≡ []
over new None ds h is = h
over new (Some n) ds h is = absurd cc

-- one more of the objects of an array
pub each_more : (step : Data → Tally → Result Tally Place) (ds : List Data) (d : Data)
    (rest : List Data) (t u : Tally) (total : Result Tally Place)
    → ds ≡ d ∷ rest → step d t ≡ Ok u → each step ds t ≡ total → each step rest u ≡ total
unfolding each
each_more step ds d rest t u total is stepped so_far =
    sym (ap (λ r. r >>= λ after. each step rest after) stepped) ∙ ap (λ xs. each step xs t) (sym is)
    ∙ so_far

pub each_done : (step : Data → Tally → Result Tally Place) (ds : List Data) (t : Tally)
    (total : Result Tally Place) → ds ≡ [] → each step ds t ≡ total → total ≡ Ok t
unfolding each
each_done step ds t total none so_far = sym so_far ∙ ap (λ xs. each step xs t) none

-- one more of the points
pub point_more : (reads : Data → Option DataPoint) (ds : List Data) (d : Data) (rest : List Data)
    (p : Option DataPoint) (t u total : Tally)
    → ds ≡ d ∷ rest → p ≡ reads d → u ≡ add_point p t → each_point reads ds t ≡ total
    → each_point reads rest u ≡ total
unfolding each_point
point_more reads ds d rest p t u total is point added so_far =
    ap (each_point reads rest) (added ∙ ap (λ q. add_point q t) point)
    ∙ ap (λ xs. each_point reads xs t) (sym is) ∙ so_far

pub point_done : (reads : Data → Option DataPoint) (ds : List Data) (t total : Tally) → ds ≡ []
    → each_point reads ds t ≡ total → t ≡ total
unfolding each_point
point_done reads ds t total none so_far = sym (ap (λ xs. each_point reads xs t) none) ∙ so_far

-- one more object
pub all_more : (ds : List Data) (d : Data) (rest : List Data) (total : Bool) → ds ≡ d ∷ rest
    → is_object d ≡ true → list_all is_object ds ≡ total → list_all is_object rest ≡ total
all_more ds d rest total is object so_far =
    let e : list_all is_object (d ∷ rest) ≡ list_all is_object rest = rw object refl in
    sym e ∙ ap (list_all is_object) (sym is) ∙ so_far

-- an array of objects
array_ok : (place : Place) (o : Option Items) (ds : List Data) → option_map elements o ≡ Some ds
    → list_all is_object ds ≡ true → each_object place o ≡ Ok ds
array_ok place None ds is all = absurd cc
array_ok place (Some items) ds is all = let e : elements items ≡ ds = cc in rw (e, all) refl

pub objects_ok : (place : Place) (d : Data) (ds : List Data)
    → option_map elements (as_array d) ≡ Some ds → list_all is_object ds ≡ true
    → objects place (Some d) ≡ Ok ds
unfolding objects
objects_ok place d ds is all = array_ok place (as_array d) ds is all

pub no_objects : (place : Place) → objects place None ≡ Ok []
unfolding objects
no_objects place = refl
