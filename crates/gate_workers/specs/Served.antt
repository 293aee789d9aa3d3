-- The result of serving a request.
use Rattle.std.specs.Prelude.{◌≡◌, ℕ, List, Option}
use Rattle.http_edge.specs.Sent.{Failed}
use Rattle.gate_workers.specs.declared.service.Served.{Served}
use Rattle.gate_workers.specs.declared.service.Served.TheVariants.{Closed, Broken, Replied}
use Rattle.gate_workers.specs.Requested.{Requested}
use Rattle.gate_workers.specs.Asks.{IsHeard, IsEmpty}
use Rattle.gate_workers.specs.Responses.{Response, IsSaid}
use Rattle.gate_workers.specs.Conversations.{Giving, IsConversation}

-- no call and nothing written, or the calls that the bytes ask for and their response
abbrev pub IsServed : {K : Type 0} → Giving K → Option (List ℕ) → K → K → Option (List ℕ)
    → Option (List ℕ) → Served → Type 0
IsServed gives input k k' old new Closed = IsEmpty input × (k ≡ k') × (old ≡ new)
IsServed gives input k k' old new Broken = (k ≡ k') × (old ≡ new)
IsServed gives input k k' old new (Replied status written end) =
    (asked : Requested) × (response : Response) × IsHeard input asked
    × IsConversation gives asked k k' response written end × IsSaid old new response status written

-- the reader's count of failed calls, before and after: one more at Broken
abbrev pub ReadingFails : (ℕ → ℕ) → ℕ → ℕ → Served → Type 0
ReadingFails one_more old new Broken = new ≡ one_more old
ReadingFails one_more old new served = new ≡ old

-- the writer's: one more where a response was not written whole
abbrev pub WritingFails : (ℕ → ℕ) → ℕ → ℕ → Served → Type 0
WritingFails one_more old new (Replied status written end) = Failed one_more old new written
WritingFails one_more old new served = new ≡ old
