-- What is found where a head is looked for.
use Rattle.std.specs.Prelude.{ℕ, ◌≤◌, List, length, Option, Some, None, Result, Ok, Err}
use Rattle.httparse.specs.declared.spans.HeaderSpan.{HeaderSpan}
use Rattle.httparse.specs.declared.spans.RequestSpans.{RequestSpans}
use Rattle.httparse.specs.Grammar.{RequestHead, print_request, NeverHasRequest}
use Rattle.httparse.specs.Spans.{IsRequestAt, IsRequestWithin}
use Rattle.http_edge.specs.declared.fault.HttpFault.{HttpFault}
use Rattle.http_edge.specs.declared.fault.HttpFault.TheVariants as fault
use Rattle.http_edge.specs.declared.limits.TheConstants.{MAX_FIELDS, MAX_HEAD}
use Rattle.http_edge.specs.Head.{HasTooManyFields, HasLongHead, IsHeadOpen}

-- the spans cover a head within the limits
pub record FindsHead (buf : List ℕ) (spans : List HeaderSpan) (r : RequestSpans)
    (head : RequestHead) : Type 0 where
  pub at : IsRequestAt buf spans r head
  pub within : IsRequestWithin buf spans r
  pub few : length head.fields ≤ MAX_FIELDS
  pub short : length (print_request head) ≤ MAX_HEAD

abbrev pub LooksForHead : List ℕ → List HeaderSpan → Result (Option RequestSpans) HttpFault → Type 0
LooksForHead buf spans (Ok (Some r)) = (head : RequestHead) × FindsHead buf spans r head
LooksForHead buf spans (Ok None) = IsHeadOpen buf
LooksForHead buf spans (Err fault.BadHead) = NeverHasRequest buf
LooksForHead buf spans (Err fault.TooManyHeaders) = HasTooManyFields buf
LooksForHead buf spans (Err fault.HeadTooLong) = HasLongHead buf
LooksForHead buf spans (Err e) = ⊥
