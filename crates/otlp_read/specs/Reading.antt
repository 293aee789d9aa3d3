-- What a request says: its points of the profile in order, the count of foreign points and that
-- of metrics; or its first wrong container.
use Rattle.std.specs.Prelude.{◌≡◌, ℕ, List, [], ◌∷◌, if◌then◌else◌, Option, Some, None, option_map}
use Rattle.std.specs.Prelude.{Result, Ok, Err, ⊤, codes}
use Rattle.std.specs.Str.{is_utf8}
use Rattle.serde_json.specs.Data.{Data}
use Rattle.serde_json.specs.Read.{read}
use Rattle.series_id.specs.declared.attributes.Attribute.{Attribute}
use Rattle.otlp_read.specs.declared.place.Place.{Place}
use Rattle.otlp_read.specs.declared.place.Place.TheVariants as place
use Rattle.otlp_read.specs.declared.fault.ReadFault.{ReadFault}
use Rattle.otlp_read.specs.declared.fault.ReadFault.TheVariants as faults
use Rattle.otlp_read.specs.declared.reading.Reading.{Reading}
use Rattle.otlp_read.specs.Fields.{field}
use Rattle.otlp_read.specs.Containers.{◌>>=◌, is_object, objects, object_in}
use Rattle.otlp_read.specs.Attributes.{attributes_in}
use Rattle.otlp_read.specs.Streams.{inner, scope_in}
use Rattle.otlp_read.specs.Tallies.{Tally, tally, nothing}
use Rattle.otlp_read.specs.Metrics.{metric}

-- the objects of an array in order, until one has a wrong container
unfoldable pub each : (Data → Tally → Result Tally Place) → List Data → Tally → Result Tally Place
each step [] t = Ok t
each step (d ∷ ds) t = step d t >>= λ after. each step ds after

-- a scope of a resource with these attributes, and its metrics
unfoldable pub scope_metrics : Option (List Attribute) → Data → Tally → Result Tally Place
scope_metrics resource d t = do
  scope ← object_in place.Scope (field (codes "scope") d)
  metrics ← objects place.Metrics (field (codes "metrics") d)
  each (metric (scope_in resource scope (attributes_in (inner (codes "attributes") scope)))) metrics
      t

-- a resource and its scopes
unfoldable pub resource_metrics : Data → Tally → Result Tally Place
resource_metrics d t = do
  resource ← object_in place.Resource (field (codes "resource") d)
  scopes ← objects place.ScopeMetrics (field (codes "scopeMetrics") d)
  each (scope_metrics (attributes_in (inner (codes "attributes") resource))) scopes t

-- the body's resources
unfoldable pub body : Data → Tally → Result Tally Place
body d t = do
  resources ← objects place.ResourceMetrics (field (codes "resourceMetrics") d)
  each resource_metrics resources t

-- a request
unfoldable pub reading : Data → Result Tally Place
reading d = if is_object d then body d nothing else Err place.Root

-- what bytes say; nothing, if they are no JSON text
unfoldable pub text_reading : List ℕ → Option (Result Tally Place)
text_reading bytes = if is_utf8 bytes then option_map reading (read bytes) else None

-- what `read_request` returns
abbrev pub Answers : List ℕ → Result Reading ReadFault → Type 0
Answers bytes (Ok r) = text_reading bytes ≡ Some (Ok (tally r))
Answers bytes (Err (faults.WrongShape p)) = text_reading bytes ≡ Some (Err p)
Answers bytes (Err faults.NotJson) = text_reading bytes ≡ None
Answers bytes (Err faults.NoMemory) = ⊤
