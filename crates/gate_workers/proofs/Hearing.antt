-- What was heard of a reader.
use Rattle.std.proofs.Common.{◌≡◌, ℕ, List, Option, refl, inl, inr}
use Rattle.std.specs.Prelude.{IfSome}
use Rattle.std.proofs.lemmas.Option.{IfSome_then}
use Rattle.http_edge.proofs.AnswerLemmas.{message_has_bytes, size_has_bytes}
use Rattle.http_edge.specs.Delivery.{IsMalformed}
use Rattle.http_edge.specs.Answer.{request_form}
use Rattle.http_edge.specs.Form.{FaultSays}
use Rattle.http_edge.specs.Message.{Message}
use Rattle.http_edge.specs.Reading.{BeginsWith}
use Rattle.http_edge.specs.declared.fault.HttpFault.{HttpFault}
use Rattle.http_edge.specs.declared.fault.HttpFault.TheVariants as http
use Rattle.gate_workers.specs.declared.refusal.Refusal.TheVariants.{Malformed, BodyTooLong}
use Rattle.gate_workers.specs.declared.refusal.Refusal.TheVariants.{NoMemory}
use Rattle.gate_workers.specs.Requested.{Requested, Refused, asked}
use Rattle.gate_workers.specs.Asks.{IsHeard}
use Rattle.gate_workers.specs.Paced.{Reaching}
use Rattle.gate_workers.specs.inner.Heard.{Hears, HearingAsks, heard_of}

malformed : {P : List ℕ → Type 0} (input : Option (List ℕ)) → IfSome input P
    → ((bytes : List ℕ) → P bytes → IsMalformed bytes) → IsHeard input (Refused Malformed)
malformed input h is =
    IfSome_then input h (λ bytes p. (let m = is bytes p in (m.0, inr (inr (inr (m, refl))))))

-- a fault of the message is heard as what it is
pub heard_fault : (input : Option (List ℕ)) (e : HttpFault)
    → IfSome input (λ bytes. FaultSays request_form e bytes) → Hears input (heard_of e)
heard_fault input http.Closed h = h
heard_fault input http.Io h = tt
heard_fault input http.BodyTooLong h =
    IfSome_then input h (λ bytes s. (size_has_bytes bytes s, inr (inr (inl (s, refl)))))
heard_fault input http.NoMemory h = IfSome_then input h (λ bytes s. (s, inl refl))
heard_fault input e h = malformed input h (λ bytes s. s.0)

pub heard_message : (input : Option (List ℕ)) (m : Message) (a : Requested)
    → IfSome input (λ bytes. BeginsWith bytes m) → a ≡ asked m → IsHeard input a
heard_message input m a h is =
    IfSome_then input h (λ bytes b. (message_has_bytes bytes m b, inr (inl (m, b, is))))

pub heard_without_memory : (input : Option (List ℕ)) (m : Message)
    → IfSome input (λ bytes. BeginsWith bytes m) → IsHeard input (Refused NoMemory)
heard_without_memory input m h =
    IfSome_then input h (λ bytes b. (message_has_bytes bytes m b, inl refl))

-- where a fault is heard, the pace is not asked
pub unasked : {P : Type 0} (reaches : Reaching P) (input : Option (List ℕ)) (e : HttpFault) (p : P)
    → IfSome input (λ bytes. FaultSays request_form e bytes)
    → HearingAsks reaches input p p (heard_of e)
unasked reaches input http.Closed p h = refl
unasked reaches input http.Io p h = refl
unasked reaches input http.BodyTooLong p h = inr (BodyTooLong, inr (inl (h, refl)), refl, refl)
unasked reaches input http.NoMemory p h = inr (NoMemory, inl refl, refl, refl)
unasked reaches input e p h =
    inr (Malformed, inr (inr (IfSome_then input h (λ bytes s. s.0), refl)), refl, refl)
