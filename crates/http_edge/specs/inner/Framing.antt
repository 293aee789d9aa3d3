-- What is answered for the framing of a head.
use Rattle.std.specs.Prelude.{◌≡◌, ℕ, ◌<◌, ◌≤◌, Option, Some, None, Result, Ok, Err}
use Rattle.http_edge.specs.declared.fault.HttpFault.{HttpFault}
use Rattle.http_edge.specs.declared.fault.HttpFault.TheVariants.{BadLength, BodyTooLong}
use Rattle.http_edge.specs.declared.framing.Framing.{Framing}
use Rattle.http_edge.specs.declared.framing.Framing.TheVariants.{Sized, Chunked}
use Rattle.http_edge.specs.declared.limits.TheConstants.{MAX_BODY}

-- the framing itself where its size is within the limit; BadLength where there is none, BodyTooLong
-- over the limit
abbrev pub Frames : Option Framing → Result Framing HttpFault → Type 0
Frames framing (Ok (Sized n)) = (framing ≡ Some (Sized n)) × (n ≤ MAX_BODY)
Frames framing (Ok Chunked) = framing ≡ Some Chunked
Frames framing (Err BadLength) = framing ≡ None
Frames framing (Err BodyTooLong) = (n : ℕ) × (framing ≡ Some (Sized n)) × (MAX_BODY < n)
Frames framing (Err e) = ⊥
