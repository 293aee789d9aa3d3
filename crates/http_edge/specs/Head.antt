-- What a look for a head returns.
use Rattle.std.specs.Prelude.{ℕ, ◌≤◌, ◌<◌, List, ◌++◌, length}
use Rattle.httparse.specs.Grammar.{RequestHead, print_request, ReadsRequest, HasNoRequest}
use Rattle.httparse.specs.Grammar.{MayBecomeRequest}
use Rattle.httparse.specs.Spans.{RequestOverflows, RequestExceeds}
use Rattle.http_edge.specs.declared.limits.TheConstants.{MAX_FIELDS, MAX_HEAD}

-- whatever bytes follow, a head at the front has too many fields, and the bytes show these
abbrev pub HasTooManyFields : List ℕ → Type 0
HasTooManyFields buf = RequestOverflows MAX_FIELDS buf × RequestExceeds MAX_FIELDS buf

-- there are as many bytes as a head may have, and whatever follows, a head at the front has more
abbrev pub HasLongHead : List ℕ → Type 0
HasLongHead buf =
    (MAX_HEAD ≤ length buf) × ((more : List ℕ) (head : RequestHead) (after : List ℕ)
    → ReadsRequest (buf ++ more) head after → MAX_HEAD < length (print_request head))

-- no head is there, there is room for more of it, and it can still be one
abbrev pub IsHeadOpen : List ℕ → Type 0
IsHeadOpen buf = HasNoRequest buf × (length buf < MAX_HEAD) × MayBecomeRequest buf
