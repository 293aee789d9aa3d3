-- At which spots a worker asks its pace.
use Rattle.std.proofs.Common.{◌≡◌, ◌⊎◌, ℕ, List, Bool, true, false, Option, inl, inr, refl, ap, sym}
use Rattle.std.proofs.Common.{◌∙◌}
use Rattle.std.specs.Prelude.{IfSome}
use Rattle.std.proofs.lemmas.Option.{IfSome_then}
use Rattle.http_edge.specs.Message.{Message}
use Rattle.http_edge.specs.Reading.{BeginsWith}
use Rattle.http_edge.specs.declared.written.Written.{Written}
use Rattle.gate_workers.specs.declared.refusal.Refusal.{Refusal}
use Rattle.gate_workers.specs.declared.refusal.Refusal.TheVariants.{NoMemory}
use Rattle.gate_workers.specs.declared.service.End.{End}
use Rattle.gate_workers.specs.declared.service.Served.TheVariants.{Replied}
use Rattle.gate_workers.specs.declared.worker.Spot.TheVariants.{BodyRead}
use Rattle.gate_workers.specs.Requested.{Requested, Refused}
use Rattle.gate_workers.specs.Conversations.{Giving, IsHandled, IsEnded}
use Rattle.gate_workers.specs.Paced.{Reaching, HasRequest, IsUnread, IsPaced}
use Rattle.gate_workers.specs.Refusals.{refusal_status}
use Rattle.gate_workers.specs.Responses.{Response, refusal_response, or_no_memory}

-- a message that was read is a whole request
pub whole : (input : Option (List ℕ)) (m : Message) → IfSome input (λ bytes. BeginsWith bytes m)
    → IfSome input HasRequest
whole input m h = IfSome_then input h (λ bytes b. (m, b))

-- bytes that were not read have a refusal's status, or that of no memory for its text
said : (input : Option (List ℕ)) (mark : Bool) (why : Refusal) (response : Response)
    → IsUnread input why → response ≡ or_no_memory mark (refusal_response why)
    → (by : Refusal) × IsUnread input by × (response.status ≡ refusal_status by)
said input true why response unread is = (NoMemory, inl refl, ap (λ (r : Response). r.status) is)
said input false why response unread is = (why, unread, ap (λ (r : Response). r.status) is)

-- what was heard of a request is what was asked of its pace
pub paced : {K P : Type 0} (gives : Giving K) (reaches : Reaching P) (input : Option (List ℕ))
    (a : Requested) (k m k' : K) (p p' : P) (response : Response) (batch : Option ℕ)
    (written : Written) (end : End)
    → (IfSome input HasRequest × reaches p BodyRead p')
    ⊎ ((why : Refusal) × IsUnread input why × (a ≡ Refused why) × (p' ≡ p))
    → IsHandled gives a k m response batch → IsEnded gives batch written m k' end
    → IsPaced reaches input k k' p p' (Replied response.status written end)
paced gives reaches input a k m k' p p' response batch written end (inl asked) h closed = inl asked
paced gives reaches input a k m k' p p' response batch written end (inr none) h closed =
    let refused = rw none.2 at h in
    let by = said input refused.1.0 none.0 response none.1 refused.1.1 in
    let left = rw refused.2 at closed in
    inr (by.0, by.1, by.2, sym (refused.0 ∙ left.0), none.3)
