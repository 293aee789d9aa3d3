-- A request as spans of the bytes that it was read from.
use Rattle.std.specs.Prelude.{ℕ, List, map, take}
use Rattle.httparse.specs.declared.spans.HeaderSpan.{HeaderSpan}
use Rattle.httparse.specs.declared.spans.RequestSpans.{RequestSpans}
use Rattle.httparse.specs.Spans.{span_bytes, header_bytes}
use Rattle.http_edge.specs.Message.{Message}

-- the message of that body whose head the spans cover
abbrev pub message_at : List ℕ → List HeaderSpan → RequestSpans → List ℕ → Message
message_at buf spans r body =
    record {
      method = span_bytes buf r.method;
      target = span_bytes buf r.path;
      headers = map (header_bytes buf) (take r.headers spans);
      body = body;
    }
