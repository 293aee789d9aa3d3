-- A request as a plain value.
use Rattle.std.specs.Prelude.{List, map}
use Rattle.http_edge.specs.declared.header.Header as kept
use Rattle.http_edge.specs.declared.request.Request.{Request}
use Rattle.http_edge.specs.Message.{Header, Message}

abbrev pub header_in : kept.Header → Header
header_in h = (h.name.items, h.value.items)

abbrev pub headers_in : List kept.Header → List Header
headers_in hs = map header_in hs

abbrev pub message_in : Request → Message
message_in r =
    record {
      method = r.method;
      target = r.target.items;
      headers = headers_in r.headers.items;
      body = r.body.items;
    }
