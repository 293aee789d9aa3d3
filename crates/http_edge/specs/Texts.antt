-- The messages that are written, each line ended by CR LF.
use Rattle.std.specs.Prelude.{ℕ, List, [], ◌++◌, length, Option, Some, None, unwrap_or, codes}
use Rattle.std.specs.Prelude.{decimal}
use Rattle.http.specs.StatusCode.{code_digits, reason_phrase}

-- a response with these digits and this phrase, of that media type and length, with these methods
-- behind that label
abbrev pub response_of :
    List ℕ → List ℕ → List ℕ → List ℕ → List ℕ → List ℕ → List ℕ → List ℕ
response_of digits phrase content_type size label methods body =
    codes "HTTP/1.1 " ++ (digits
    ++ (codes " " ++ (phrase ++ (codes "\r\nContent-Type: "
    ++ (content_type ++ (codes "\r\nContent-Length: "
    ++ (size ++ (label ++ (methods ++ (codes "\r\nConnection: close\r\n\r\n" ++ body))))))))))

-- the label of the methods that are allowed, where there are some
abbrev pub allow_label : Option (List ℕ) → List ℕ
allow_label None = []
allow_label (Some methods) = codes "\r\nAllow: "

-- the response with that status and body; the phrase is empty where the status has none
abbrev pub response_text : ℕ → List ℕ → Option (List ℕ) → List ℕ → List ℕ
response_text status content_type allow body =
    response_of (code_digits status) (unwrap_or (reason_phrase status) []) content_type
    (decimal (length body)) (allow_label allow) (unwrap_or allow []) body

-- a request to that host, of that length
abbrev pub post_request : List ℕ → List ℕ → List ℕ → List ℕ
post_request host size body =
    codes "POST /v1/metrics HTTP/1.1\r\nHost: "
    ++ (host ++ (codes "\r\nContent-Type: application/json\r\nContent-Length: "
    ++ (size ++ (codes "\r\nConnection: close\r\n\r\n" ++ body))))

-- the request that posts that body to that host
abbrev pub post_text : List ℕ → List ℕ → List ℕ
post_text host body = post_request host (decimal (length body)) body
