-- The message that bytes begin with.
use Rattle.std.specs.Prelude.{◌≡◌, ℕ, ◌<◌, ◌≤◌, List, [], ◌++◌, length, map, Option, Some, None}
use Rattle.httparse.specs.Grammar.{RequestHead}
use Rattle.httparse.specs.Spans.{name_and_value}
use Rattle.http_edge.specs.declared.framing.Framing.{Framing}
use Rattle.http_edge.specs.declared.framing.Framing.TheVariants.{Sized, Chunked}
use Rattle.http_edge.specs.declared.limits.TheConstants.{MAX_BODY}
use Rattle.http_edge.specs.Message.{Message, IsHeadAt}
use Rattle.http_edge.specs.Framing.{framing_by}
use Rattle.http_edge.specs.Chunks.{HasChunks}

-- the body of a sized message, or None where its size is over the limit
abbrev pub HasSized : ℕ → List ℕ → Option (List ℕ) → Type 0
HasSized n after (Some body) =
    (n ≤ MAX_BODY) × (length body ≡ n) × ((rest : List ℕ) × (after ≡ body ++ rest))
HasSized n after None = MAX_BODY < n

-- the body behind a head, or None where its size is the first thing that is wrong
abbrev pub HasBody : Option Framing → List ℕ → Option (List ℕ) → Type 0
HasBody None after body = ⊥
HasBody (Some (Sized n)) after body = HasSized n after body
HasBody (Some Chunked) after body = HasChunks [] after body

-- how a head frames its body
abbrev pub framing_in : RequestHead → Option Framing
framing_in head = framing_by head.minor (map name_and_value head.fields)

-- the message of a head and a body
abbrev pub message_of : RequestHead → List ℕ → Message
message_of head body =
    record {
      method = head.method;
      target = head.target;
      headers = map name_and_value head.fields;
      body = body;
    }

-- a head and what its body is
pub record IsMessageOf (buf : List ℕ) (head : RequestHead) (after : List ℕ)
    (body : Option (List ℕ)) : Type 0 where
  pub at : IsHeadAt buf head after
  pub has : HasBody (framing_in head) after body

abbrev pub Reads : List ℕ → RequestHead → Option (List ℕ) → Type 0
Reads buf head body = (after : List ℕ) × IsMessageOf buf head after body

-- the bytes begin with the message m
abbrev pub BeginsWith : List ℕ → Message → Type 0
BeginsWith buf m =
    (head : RequestHead) × (body : List ℕ) × Reads buf head (Some body) × (m ≡ message_of head body)

-- the head is whole, and the first thing that is wrong after it is the size
abbrev pub IsTooLong : List ℕ → Type 0
IsTooLong buf = (head : RequestHead) × Reads buf head None

-- the bytes begin with neither
abbrev pub NotYet : List ℕ → Type 0
NotYet buf = (head : RequestHead) (body : Option (List ℕ)) → ¬ (Reads buf head body)

-- they begin with neither, whatever bytes follow
abbrev pub Never : List ℕ → Type 0
Never buf = (more : List ℕ) → NotYet (buf ++ more)
