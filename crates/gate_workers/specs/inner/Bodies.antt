-- The body of a response.
use Rattle.std.specs.Prelude.{ℕ, List, codes}
use Rattle.out_texts.specs.Answers.{status_text}
use Rattle.gate_workers.specs.declared.response.Body.{Body}
use Rattle.gate_workers.specs.declared.response.Body.TheVariants as body

-- its media type
abbrev pub kind_of : Body → List ℕ
kind_of (body.Plain text) = codes "text/plain"
kind_of other = codes "application/json"

abbrev pub text_of : Body → List ℕ
text_of (body.Json text) = text.items
text_of (body.Plain text) = text.items
text_of body.Empty = codes "{}"
text_of body.Idle = codes "{\"act\":\"nothing\"}"
text_of body.NoMemory = status_text (codes "no memory")
