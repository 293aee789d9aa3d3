-- What a request asks for: its path decides first, then its method, the sender, the content type
-- and the coding, the body.
use Rattle.std.specs.Prelude.{ℕ, Bool, false, not, ◌&&◌, ◌||◌, ◌==◌, List, [], ◌∷◌, codes, length}
use Rattle.std.specs.Prelude.{take, drop, position, if◌then◌else◌, Option, Some, None, Result, Ok}
use Rattle.std.specs.Prelude.{Err}
use Rattle.std.specs.List.{list_all}
use Rattle.std.specs.Option.{option_map_or}
use Rattle.std.specs.Str.{bytes_eq, str_eq_ignore_ascii_case}
use Rattle.metric_events.specs.Senders.{name_fault}
use Rattle.metric_events.specs.declared.sender_name.NameFault.{NameFault}
use Rattle.metric_events.specs.declared.batch.Batch.{Batch}
use Rattle.otlp_read.specs.Tallies.{Tally}
use Rattle.otlp_read.specs.Reading.{text_reading}
use Rattle.otlp_read.specs.declared.place.Place.{Place}
use Rattle.out_texts.specs.Answers.{success_text}
use Rattle.http_edge.specs.Message.{Message, Header}
use Rattle.http_edge.specs.Framing.{is_named, values_of}
use Rattle.http_edge.specs.Reply.{first_of}
use Rattle.gate_workers.specs.declared.refusal.Allowed.{Allowed}
use Rattle.gate_workers.specs.declared.refusal.Allowed.TheVariants.{Post, Get}
use Rattle.gate_workers.specs.declared.refusal.Refusal.{Refusal}
use Rattle.gate_workers.specs.declared.refusal.Refusal.TheVariants.{NoSuchPath, WrongMethod}
use Rattle.gate_workers.specs.declared.refusal.Refusal.TheVariants.{BadSender, BadContent, NotJson}
use Rattle.gate_workers.specs.declared.refusal.Refusal.TheVariants.{WrongShape}
use Rattle.gate_workers.specs.Refusals.{allowed_name}

pub data Requested : Type 0 where
  Metrics : (body : Batch) (text : List ℕ) → Requested
  Quarantine : (sender : List ℕ) → Requested
  Lift : (sender : List ℕ) → Requested
  FlushNow : Requested
  Report : Requested
  Refused : (why : Refusal) → Requested

abbrev pub up_to : Option ℕ → List ℕ → List ℕ
up_to None bytes = bytes
up_to (Some i) bytes = take i bytes

-- the bytes before the first one of this value, or all
unfoldable pub before : ℕ → List ℕ → List ℕ
before mark bytes = up_to (position (λ b. b == mark) bytes) bytes

abbrev pub begins : List ℕ → List ℕ → Bool
begins prefix p = bytes_eq (take (length prefix) p) prefix

-- a name that a sender may have
abbrev pub with_name : (List ℕ → Requested) → List ℕ → Requested
with_name asks name =
    option_map_or (λ (fault : NameFault). Refused BadSender) (name_fault name) (asks name)

abbrev pub by_method : Allowed → Message → Requested → Requested
by_method allowed m asked =
    if bytes_eq m.method (allowed_name allowed) then asked else Refused (WrongMethod allowed)

-- a blank or a tab
abbrev pub is_blank : ℕ → Bool
is_blank b = b == 32 || b == 9

-- these words, in any case, and only blanks behind them
abbrev pub is_words : List ℕ → List ℕ → Bool
is_words words value =
    str_eq_ignore_ascii_case (take (length words) value) words
    && list_all is_blank (drop (length words) value)

-- the media type, before its parameters
abbrev pub is_json_type : Option (List ℕ) → Bool
is_json_type None = false
is_json_type (Some value) = is_words (codes "application/json") (before 59 value)

-- a field that names no coding but identity
abbrev pub is_uncoded : Header → Bool
is_uncoded h =
    not (is_named (codes "content-encoding") h) || str_eq_ignore_ascii_case h.1 (codes "identity")

-- the first content type is that of JSON, and there is no content coding
abbrev pub is_plain_json : List Header → Bool
is_plain_json hs =
    is_json_type (first_of (values_of (codes "content-type") hs)) && list_all is_uncoded hs

abbrev pub read_as : List ℕ → Option (Result Tally Place) → Requested
read_as sender None = Refused NotJson
read_as sender (Some (Err place)) = Refused WrongShape
read_as sender (Some (Ok t)) =
    Metrics (record { sender = sender; points = t.points }) (success_text t.foreign)

abbrev pub metrics_of : Message → List ℕ → Requested
metrics_of m sender =
    if is_plain_json m.headers then read_as sender (text_reading m.body) else Refused BadContent

-- the sender of a request with these values of x-sender: '-' where there is none
abbrev pub metrics_by : Message → List (List ℕ) → Requested
metrics_by m [] = metrics_of m (codes "-")
metrics_by m (v ∷ []) = with_name (metrics_of m) v
metrics_by m (v ∷ w ∷ vs) = Refused BadSender

abbrev pub metrics : Message → Requested
metrics m = metrics_by m (values_of (codes "x-sender") m.headers)

-- the routes: by the path, and then by the method
unfoldable pub asked_at : List ℕ → Message → Requested
asked_at p m =
    if bytes_eq p (codes "/v1/metrics") then by_method Post m (metrics m)
    else (if bytes_eq p (codes "/flush") then by_method Post m FlushNow
    else (if bytes_eq p (codes "/report") then by_method Get m Report
    else (if begins (codes "/quarantine/") p then by_method Post m
    (with_name Quarantine (drop 12 p))
    else (if begins (codes "/lift/") p then by_method Post m (with_name Lift (drop 6 p))
    else Refused NoSuchPath))))

-- the path is the target up to its first '?'
abbrev pub asked : Message → Requested
asked m = asked_at (before 63 m.target) m
