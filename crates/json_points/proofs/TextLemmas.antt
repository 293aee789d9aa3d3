-- A text, its tape, and what a request says.
use Rattle.std.proofs.Common.{◌≡◌, ℕ, List, Option, Some, None, Result, Ok, IfOk, refl, ap, sym}
use Rattle.std.proofs.Common.{subst, ◌∙◌}
use Rattle.std.specs.Prelude.{IsSome, IsUtf8, codes}
use Rattle.json.specs.Token.{Token}
use Rattle.json.specs.Lex.{tokens}
use Rattle.json.specs.Json.{Json, document}
use Rattle.json.specs.Find.{BeginsWith}
use Rattle.serde_json.specs.Data.{Data}
use Rattle.serde_json.specs.Read.{read}
use Rattle.series_id.specs.declared.attributes.Attribute.{Attribute}
use Rattle.otlp_read.specs.declared.place.Place.TheVariants as place
use Rattle.otlp_read.specs.Attributes.{attributes_in}
use Rattle.otlp_read.specs.Containers.{◌>>=◌, objects, object_in}
use Rattle.otlp_read.specs.Fields.{field}
use Rattle.otlp_read.specs.Metrics.{metric}
use Rattle.otlp_read.specs.Reading.{each, scope_metrics, resource_metrics, body, reading}
use Rattle.otlp_read.specs.Reading.{text_reading}
use Rattle.otlp_read.specs.Streams.{inner, scope_in}
use Rattle.otlp_read.specs.Tallies.{Tally}
use Rattle.otlp_read.proofs.TextLemmas.{says}
use Rattle.json_points.specs.inner.Nodes.{data_at, IsNode}
use Rattle.json_points.specs.inner.Plain.{Plain}
use Rattle.json_points.proofs.NodeLemmas.{data_is, node_is}
use Rattle.json_points.proofs.PlainLemmas.{plain_text}

pub if_ok_weaker : {T E : Type 0} (r : Result T E) (P Q : T → Type 0) → ((t : T) → P t → Q t)
    → IfOk r P → IfOk r Q
if_ok_weaker (Ok t) P Q f h = f t h
if_ok_weaker (Result.Err e) P Q f h = tt

some_of : (o : Option Json) → IsSome o → (j : Json) × (o ≡ Some j)
some_of None h = absurd cc
some_of (Some j) h = (j, refl)

-- the tape of a plain text is a value that is read
pub record IsTape (text : List ℕ) (tape : List Token) : Type 0 where
  pub node : IsNode tape
  pub is : read text ≡ Some (data_at tape)

pub tape_read : (text : List ℕ) (tape : List Token) → (tape ≡ tokens text) × IsSome (document text)
    → ((j : Json) → document text ≡ Some j → BeginsWith tape j) → Plain 0 tape → IsTape text tape
tape_read text tape ok begins plain =
    let j = some_of (document text) ok.1 in
    let r = plain_text text j.0 j.1 (subst (Plain 0) ok.0 plain) in
    let there = begins j.0 j.1 in
    record {
      node = node_is tape j.0 r.value_of there r.of;
      is =
          r.is ∙ ap (λ d. Some d) (sym (data_is tape j.0 r.value_of there r.of));
    }

pub text_says : (text : List ℕ) (tape : List Token) (t : Tally) → IsUtf8 text → IsTape text tape
    → reading (data_at tape) ≡ Ok t → text_reading text ≡ Some (Ok t)
text_says text tape t utf8 is h = says text (data_at tape) utf8 is.is ∙ ap (λ r. Some r) h

-- ---- the containers of a request

pub body_read : (d : Data) (ds : List Data) (t u : Tally)
    → objects place.ResourceMetrics (field (codes "resourceMetrics") d) ≡ Ok ds
    → each resource_metrics ds t ≡ Ok u → body d t ≡ Ok u
unfolding body
body_read d ds t u list read = rw list read

pub resource_read : (d : Data) (resource : Option Data) (ds : List Data) (t u : Tally)
    → object_in place.Resource (field (codes "resource") d) ≡ Ok resource
    → objects place.ScopeMetrics (field (codes "scopeMetrics") d) ≡ Ok ds
    → each (scope_metrics (attributes_in (inner (codes "attributes") resource))) ds t ≡ Ok u
    → resource_metrics d t ≡ Ok u
unfolding resource_metrics
resource_read d resource ds t u there list read = rw (there, list) read

pub scope_read : (above : Option (List Attribute)) (d : Data) (scope : Option Data) (ds : List Data)
    (t u : Tally)
    → object_in place.Scope (field (codes "scope") d) ≡ Ok scope
    → objects place.Metrics (field (codes "metrics") d) ≡ Ok ds
    → each (metric (scope_in above scope (attributes_in (inner (codes "attributes") scope)))) ds t
    ≡ Ok u → scope_metrics above d t ≡ Ok u
unfolding scope_metrics
scope_read above d scope ds t u there list read = rw (there, list) read
