-- The parts of a text, one behind the other, and what was written of them.
use Rattle.std.proofs.Common.{◌≡◌, ℕ, ◌<◌, Bool, true, false, List, [], ◌++◌, length, Option, Some}
use Rattle.std.proofs.Common.{None, Bor, option_map, sym, ap, subst, ◌∙◌, lit<}
use Rattle.std.specs.Prelude.{if◌then◌else◌, IfSome, unwrap_or, codes, ◌==◌}
use Rattle.std.proofs.lemmas.List.{append-nil}
use Rattle.http.specs.StatusCode.{reason_phrase}
use Rattle.http_edge.specs.declared.written.Written.{Written}
use Rattle.http_edge.specs.Sent.{Sent}
use Rattle.http_edge.specs.Texts.{response_of, post_request}

pub sent_response : (old new : Option (List ℕ)) (w : Written)
    (a p k z t m digits phrase kind size methods body : List ℕ) → a ≡ digits → p ≡ phrase → k ≡ kind
    → z ≡ size → m ≡ methods
    → Sent old new (response_of a p k z t m body) w
    → Sent old new (response_of digits phrase kind size t methods body) w
sent_response old new w a p k z t m digits phrase kind size methods body e f g h i s =
    let same : response_of a p k z t m body ≡ response_of digits phrase kind size t methods body =
    cc in
    subst (λ (x : List ℕ). Sent old new x w) same s

pub sent_post : (old new : Option (List ℕ)) (w : Written) (h z host size body : List ℕ) → h ≡ host
    → z ≡ size → Sent old new (post_request h z (body ++ [])) w
    → Sent old new (post_request host size body) w
sent_post old new w h z host size body e f s =
    let same : post_request h z (body ++ []) ≡ post_request host size body = cc (append-nil body) in
    subst (λ (x : List ℕ). Sent old new x w) same s

-- ---- the phrase of a status

abbrev Short : List ℕ → Type 0
Short p = length p < 64

record IsShort (o : Option (List ℕ)) : Type 0 where
  is : IfSome o Short

short_then : (b : Bool) (p : List ℕ) (o : Option (List ℕ)) → length p < 64 → IsShort o
    → IsShort (if b then Some p else o)
short_then true p o short rest = record { is = short }
short_then false p o short rest = rest

short_end : IsShort None
short_end = record { is = tt }

phrase_short : (n : ℕ) → IsShort (reason_phrase n)
phrase_short n =
    short_then (n == 100) (codes "Continue") _ (lit< tt)
    (short_then (n == 101) (codes "Switching Protocols") _ (lit< tt)
    (short_then (n == 102) (codes "Processing") _ (lit< tt)
    (short_then (n == 103) (codes "Early Hints") _ (lit< tt)
    (short_then (n == 200) (codes "OK") _ (lit< tt)
    (short_then (n == 201) (codes "Created") _ (lit< tt)
    (short_then (n == 202) (codes "Accepted") _ (lit< tt)
    (short_then (n == 203) (codes "Non Authoritative Information")
    _ (lit< tt) (short_then (n == 204) (codes "No Content")
    _ (lit< tt) (short_then (n == 205) (codes "Reset Content")
    _ (lit< tt) (short_then (n == 206)
    (codes "Partial Content") _ (lit< tt)
    (short_then (n == 207) (codes "Multi-Status")
    _ (lit< tt) (short_then (n == 208)
    (codes "Already Reported") _ (lit< tt)
    (short_then (n == 226)
    (codes "IM Used") _ (lit< tt)
    (short_then (n == 300)
    (codes
    "Multiple Choices")
    _ (lit< tt)
    (short_then
    (n ==
    301)
    (codes "Moved Permanently") _ (lit< tt)
    (short_then (n == 302) (codes "Found") _ (lit< tt)
    (short_then (n == 303) (codes "See Other") _ (lit< tt)
    (short_then (n == 304) (codes "Not Modified") _ (lit< tt)
    (short_then (n == 305) (codes "Use Proxy") _ (lit< tt)
    (short_then (n == 307) (codes "Temporary Redirect") _ (lit< tt)
    (short_then (n == 308) (codes "Permanent Redirect") _ (lit< tt)
    (short_then (n == 400) (codes "Bad Request") _ (lit< tt)
    (short_then (n == 401) (codes "Unauthorized") _ (lit< tt)
    (short_then (n == 402) (codes "Payment Required")
    _ (lit< tt) (short_then (n == 403) (codes "Forbidden")
    _ (lit< tt) (short_then (n == 404)
    (codes "Not Found") _ (lit< tt)
    (short_then (n == 405)
    (codes "Method Not Allowed") _ (lit< tt)
    (short_then (n == 406)
    (codes "Not Acceptable")
    _ (lit< tt)
    (short_then (n == 407)
    (codes
    "Proxy Authentication Required") _ (lit< tt)
    (short_then (n == 408) (codes "Request Timeout") _ (lit< tt)
    (short_then (n == 409) (codes "Conflict") _ (lit< tt)
    (short_then (n == 410) (codes "Gone") _ (lit< tt)
    (short_then (n == 411) (codes "Length Required") _ (lit< tt)
    (short_then (n == 412) (codes "Precondition Failed") _ (lit< tt)
    (short_then (n == 413) (codes "Payload Too Large") _ (lit< tt)
    (short_then (n == 414) (codes "URI Too Long") _ (lit< tt)
    (short_then (n == 415) (codes "Unsupported Media Type")
    _ (lit< tt) (short_then (n == 416)
    (codes "Range Not Satisfiable") _ (lit< tt)
    (short_then (n == 417) (codes "Expectation Failed")
    _ (lit< tt) (short_then (n == 418)
    (codes "I'm a teapot") _ (lit< tt)
    (short_then (n == 421)
    (codes "Misdirected Request")
    _ (lit< tt)
    (short_then (n == 422)
    (codes
    "Unprocessable Entity") _ (lit< tt)
    (short_then (n == 423) (codes "Locked") _ (lit< tt)
    (short_then (n == 424) (codes "Failed Dependency") _ (lit< tt)
    (short_then (n == 425) (codes "Too Early") _ (lit< tt)
    (short_then (n == 426) (codes "Upgrade Required") _ (lit< tt)
    (short_then (n == 428) (codes "Precondition Required") _ (lit< tt)
    (short_then (n == 429) (codes "Too Many Requests") _ (lit< tt)
    (short_then (n == 431) (codes "Request Header Fields Too Large")
    _ (lit< tt) (short_then (n == 451)
    (codes "Unavailable For Legal Reasons") _ (lit< tt)
    (short_then (n == 500) (codes "Internal Server Error")
    _ (lit< tt) (short_then (n == 501)
    (codes "Not Implemented") _ (lit< tt)
    (short_then (n == 502) (codes "Bad Gateway")
    _ (lit< tt) (short_then (n == 503)
    (codes "Service Unavailable")
    _ (lit< tt)
    (short_then (n == 504)
    (codes
    "Gateway Timeout")
    _ (lit< tt)
    (short_then
    (n ==
    505)
    (codes "HTTP Version Not Supported") _ (lit< tt)
    (short_then (n == 506) (codes "Variant Also Negotiates") _ (lit< tt)
    (short_then (n == 507) (codes "Insufficient Storage") _ (lit< tt)
    (short_then (n == 508) (codes "Loop Detected") _ (lit< tt)
    (short_then (n == 510) (codes "Not Extended") _ (lit< tt)
    (short_then (n == 511) (codes "Network Authentication Required") _ (lit< tt)
    short_end)))))))))))))))))))))))))))))))))))))))))))))))))))))))))))))

short_or_empty : (o : Option (List ℕ)) → IfSome o Short → length (unwrap_or o []) < 64
short_or_empty None h = lit< tt
short_or_empty (Some p) h = h

pub phrase_is_short : (n : ℕ) (p : List ℕ) → p ≡ unwrap_or (reason_phrase n) [] → length p < 64
phrase_is_short n p is = subst (λ (x : List ℕ). length x < 64) (sym is)
    (short_or_empty (reason_phrase n) (phrase_short n).is)

pub phrase_is : (o : Option (Bor (List ℕ))) (d r : Bor (List ℕ)) → r ≡ unwrap_or o d → d.now ≡ []
    → r.now ≡ unwrap_or (option_map (λ s. s.now) o) []
phrase_is None d r is empty = ap (λ (x : Bor (List ℕ)). x.now) is ∙ empty
phrase_is (Some p) d r is empty = ap (λ (x : Bor (List ℕ)). x.now) is
