-- The bodies of responses to senders and to flush orders.
use Rattle.std.specs.Prelude.{ℕ, List, codes, decimal, if◌then◌else◌, ◌==◌, Option, option_map}
use Rattle.serde_json.specs.Data.{Data, string, object, no_members, member}
use Rattle.serde_json.specs.Written.{compact_text}
use Rattle.out_texts.specs.Members.{member_if}
use Rattle.back_answers.specs.declared.answer.Act.{Act}
use Rattle.back_answers.specs.declared.answer.Act.TheVariants.{Settle, GiveBack, DropFlush}

-- a refusal, with its reason
unfoldable pub status_value : List ℕ → Data
status_value message = object (member (codes "message") (string message) no_members)

abbrev pub status_text : List ℕ → List ℕ
status_text message = compact_text (status_value message)

-- how many points were left out, and why
abbrev pub partial_success : ℕ → Data
partial_success foreign = object (
    member (codes "errorMessage") (string (codes "points outside the profile")) (
    member (codes "rejectedDataPoints") (string (decimal foreign)) no_members))

-- a success; it says nothing if no point was left out
unfoldable pub success_value : ℕ → Data
success_value foreign =
    if foreign == 0 then object no_members
    else object (member (codes "partialSuccess") (partial_success foreign) no_members)

abbrev pub success_text : ℕ → List ℕ
success_text foreign = compact_text (success_value foreign)

-- the word for what was done with a flush
abbrev pub act_name : Act → List ℕ
act_name Settle = codes "settled"
act_name DropFlush = codes "dropped"
act_name GiveBack = codes "returned"

-- what was done with a flush, its number, how many points it had, and the seconds to wait, if known
unfoldable pub turn_value : ℕ → ℕ → Act → Option ℕ → Data
turn_value flush points act after = object (
    member (codes "act") (string (act_name act)) (
    member (codes "flush") (string (decimal flush)) (
    member (codes "points") (string (decimal points)) (
    member_if (codes "retryAfter") (option_map (λ s. string (decimal s)) after) no_members))))

abbrev pub turn_text : ℕ → ℕ → Act → Option ℕ → List ℕ
turn_text flush points act after = compact_text (turn_value flush points act after)
