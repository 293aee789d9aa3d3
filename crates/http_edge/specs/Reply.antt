-- The head of a response, and what is answered about its bytes.
use Rattle.std.specs.Prelude.{◌≡◌, ◌≢◌, ℕ, ◌<◌, ◌≤◌, List, [], ◌∷◌, ◌++◌, length, map, Option, Some}
use Rattle.std.specs.Prelude.{None, option_map, Result, codes, ⊤}
use Rattle.httparse.specs.Grammar.{ResponseHead, print_response, ReadsResponse, HasNoResponse}
use Rattle.httparse.specs.Grammar.{NeverHasResponse, MayBecomeResponse, status_code}
use Rattle.httparse.specs.Spans.{name_and_value, ResponseOverflows, ResponseExceeds}
use Rattle.http_edge.specs.declared.fault.HttpFault.{HttpFault}
use Rattle.http_edge.specs.declared.fault.HttpFault.TheVariants as fault
use Rattle.http_edge.specs.declared.reply.Reply.{Reply}
use Rattle.http_edge.specs.declared.limits.TheConstants.{MAX_FIELDS, MAX_HEAD}
use Rattle.http_edge.specs.Form.{Form, AnswerSays}
use Rattle.http_edge.specs.Framing.{values_of}

-- what a reply says, as a plain value
pub record ReplyHead : Type 0 where
  pub status : ℕ
  pub retry_after : Option (List ℕ)

-- the first of some values
abbrev pub first_of : List (List ℕ) → Option (List ℕ)
first_of [] = None
first_of (v ∷ vs) = Some v

-- what a head says: its status, and the value of its first Retry-After
abbrev pub reply_of : ResponseHead → ReplyHead
reply_of k =
    record {
      status = status_code k;
      retry_after = first_of (values_of (codes "retry-after") (map name_and_value k.fields));
    }

-- what a reply says
abbrev pub reply_in : Reply → ReplyHead
reply_in r = record { status = r.status; retry_after = option_map (λ v. v.now) r.retry_after }

-- buf is a head within the limits and then after
pub record IsResponseAt (buf : List ℕ) (k : ResponseHead) (after : List ℕ) : Type 0 where
  pub reads : ReadsResponse buf k after
  pub few : length k.fields ≤ MAX_FIELDS
  pub short : length (print_response k) ≤ MAX_HEAD

-- the bytes begin with a head that says t
abbrev pub BeginsWithReply : List ℕ → ReplyHead → Type 0
BeginsWithReply buf t =
    (k : ResponseHead) × (after : List ℕ) × IsResponseAt buf k after × (t ≡ reply_of k)

-- the bytes begin with no head
abbrev pub NoReply : List ℕ → Type 0
NoReply buf = (k : ResponseHead) (after : List ℕ) → ¬ (IsResponseAt buf k after)

-- no head is there, there is room for more of it, and it can still be one
abbrev pub IsReplyOpen : List ℕ → Type 0
IsReplyOpen buf = HasNoResponse buf × (length buf < MAX_HEAD) × MayBecomeResponse buf

-- what each fault says of the bytes; NoMemory says nothing of them, and no other fault comes
abbrev pub ExplainsReply : HttpFault → List ℕ → Type 0
ExplainsReply fault.Closed bytes = bytes ≡ []
ExplainsReply fault.BadHead bytes = NeverHasResponse bytes
ExplainsReply fault.TooManyHeaders bytes =
    ResponseOverflows MAX_FIELDS bytes × ResponseExceeds MAX_FIELDS bytes
ExplainsReply fault.HeadTooLong bytes =
    (MAX_HEAD ≤ length bytes) × ((more : List ℕ) (k : ResponseHead) (after : List ℕ)
    → ReadsResponse (bytes ++ more) k after → MAX_HEAD < length (print_response k))
ExplainsReply fault.Truncated bytes = (bytes ≢ []) × NoReply bytes
ExplainsReply fault.NoMemory bytes = ⊤
ExplainsReply e bytes = ⊥

-- the head of a response as a form of message
abbrev pub reply_form : Form ReplyHead Reply
reply_form =
    record {
      begins = BeginsWithReply;
      view = reply_in;
      not_yet = NoReply;
      explains = ExplainsReply;
    }

-- what an answer says of all the bytes of a source
abbrev pub SaysReply : List ℕ → Result Reply HttpFault → Type 0
SaysReply bytes r = AnswerSays reply_form bytes r
