-- The elements of an array, as the code has them, and a step that failed.
use Rattle.std.proofs.Common.{◌≡◌, List, [], ◌∷◌, map, Result, refl, ap}
use Rattle.serde_json.specs.declared.value.Value.{Value}
use Rattle.serde_json.specs.View.{view, items_view}
use Rattle.otlp_read.specs.declared.place.Place.{Place}
use Rattle.otlp_read.specs.declared.fault.ReadFault.{ReadFault}
use Rattle.otlp_read.specs.declared.fault.ReadFault.TheVariants as faults
use Rattle.otlp_read.specs.Containers.{◌>>=◌, elements}
use Rattle.otlp_read.specs.inner.Containers.{Fails}

pub elements_view : (vs : List Value) → elements (items_view vs) ≡ map view vs
elements_view [] = refl
elements_view (v ∷ vs) = ap (λ ds. view v ∷ ds) (elements_view vs)

-- a step that failed fails the whole
pub fails_then : {A B : Type 0} (e : ReadFault) (r : Result A Place) (f : A → Result B Place)
    → Fails e r → Fails e (r >>= f)
fails_then faults.NoMemory r f h = tt
fails_then faults.NotJson r f h = h
fails_then (faults.WrongShape place) r f h = ap (λ q. q >>= f) h
