-- The responses.
use Rattle.std.specs.Prelude.{◌≡◌, ℕ, Bool, true, false, List, codes, Option, Some, None, Result}
use Rattle.std.specs.Prelude.{Ok, Err}
use Rattle.back_answers.specs.Waits.{asked_wait}
use Rattle.delta_book.specs.declared.totals.SeriesTotals.{SeriesTotals}
use Rattle.http_edge.specs.Texts.{response_text}
use Rattle.http_edge.specs.Sent.{Sent}
use Rattle.http_edge.specs.declared.written.Written.{Written}
use Rattle.out_texts.specs.Answers.{status_text, turn_text}
use Rattle.out_texts.specs.Report.{report_text}
use Rattle.gate_workers.specs.declared.order.OrderFault.{OrderFault}
use Rattle.gate_workers.specs.declared.flush.Turn.{Turn}
use Rattle.gate_workers.specs.declared.flush.Turn.TheVariants as turn
use Rattle.gate_workers.specs.declared.refusal.Refusal.{Refusal}
use Rattle.gate_workers.specs.declared.refusal.Refusal.TheVariants.{Full, NoMemory}
use Rattle.gate_workers.specs.Refusals.{refusal_status, refusal_message, refusal_allow, of_order}

pub record Response : Type 0 where
  pub status : ℕ
  pub kind : List ℕ
  pub allow : Option (List ℕ)
  pub body : List ℕ

-- its bytes
abbrev pub bytes_of : Response → List ℕ
bytes_of r = response_text r.status r.kind r.allow r.body

-- 200, with that JSON
abbrev pub json_response : List ℕ → Response
json_response body =
    record { status = 200; kind = codes "application/json"; allow = None; body = body }

abbrev pub refusal_response : Refusal → Response
refusal_response why =
    record {
      status = refusal_status why;
      kind = codes "application/json";
      allow = refusal_allow why;
      body = status_text (refusal_message why);
    }

-- out of memory, where the mark says that there is none for its text
abbrev pub or_no_memory : Bool → Response → Response
or_no_memory true r = refusal_response NoMemory
or_no_memory false r = r

-- the response is that, or out of memory
abbrev pub IsThatOrNoMemory : Response → Response → Type 0
IsThatOrNoMemory said response = (mark : Bool) × (response ≡ or_no_memory mark said)

abbrev pub turn_response : Turn → Response
turn_response turn.Idle = json_response (codes "{\"act\":\"nothing\"}")
turn_response turn.Full = refusal_response Full
turn_response turn.NoMemory = refusal_response NoMemory
turn_response (turn.Done flush points answer act) =
    json_response (turn_text flush points act (asked_wait answer))

abbrev pub order_response : Result Turn OrderFault → Response
order_response (Ok t) = turn_response t
order_response (Err fault) = refusal_response (of_order fault)

abbrev pub report_response : Option (List SeriesTotals) → Response
report_response None = refusal_response NoMemory
report_response (Some rows) =
    record { status = 200; kind = codes "text/plain"; allow = None; body = report_text rows }

-- how much of the response was written, and its status
pub record IsSaid (old new : Option (List ℕ)) (r : Response) (status : ℕ)
    (written : Written) : Type 0 where
  pub status_is : status ≡ r.status
  pub sent : Sent old new (bytes_of r) written
