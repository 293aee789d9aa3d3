-- What the senders of a rehearsal post.
use Rattle.std.specs.Prelude.{ℕ, ◌+◌, ◌*◌, List, [], ◌++◌, length, codes, decimal}

-- a number in decimal between two texts
abbrev pub between : List ℕ → ℕ → List ℕ → List ℕ
between before number after = before ++ (decimal number ++ after)

-- the metric's name and what is said of it, up to the value of its one point
unfoldable pub metric_text : ℕ → List ℕ
metric_text sender =
    between (codes "{\"resourceMetrics\":[{\"scopeMetrics\":[{\"metrics\":[{\"name\":\"req-") sender
    (codes
    "\",\"sum\":{\"aggregationTemporality\":1,\"isMonotonic\":true,\"dataPoints\":[{\"asInt\":\"")

-- the value and the span of the point, and the end
unfoldable pub point_text : ℕ → List ℕ
point_text batch =
    between [] (batch + 1) (codes "\",\"startTimeUnixNano\":\"")
    ++ between [] (10 * batch + 10) (codes "\",\"timeUnixNano\":\"")
    ++ between [] (10 * batch + 20) (codes "\"}]}}]}]}]}")

-- batch k of sender j, both from 0: one monotonic point of `req-j` in (10k+10, 10k+20], of value
-- k+1
abbrev pub body_text : ℕ → ℕ → List ℕ
body_text sender batch = metric_text sender ++ point_text batch

-- the head of the request that posts a body of that length for sender j, whose name is `sj`
unfoldable pub head_text : ℕ → ℕ → List ℕ
head_text sender size =
    between
    (codes
    "POST /v1/metrics HTTP/1.1\r\nHost: localhost\r\nContent-Type: application/json\r\nX-Sender: s")
    sender (codes "\r\nContent-Length: ")
    ++ between [] size (codes "\r\nConnection: close\r\n\r\n")

-- the request that posts batch k of sender j
abbrev pub post_text : ℕ → ℕ → List ℕ
post_text sender batch =
    head_text sender (length (body_text sender batch)) ++ body_text sender batch
