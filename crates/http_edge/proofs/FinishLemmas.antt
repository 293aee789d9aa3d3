-- The request of a message that is whole.
use Rattle.std.proofs.Common.{◌≡◌, ℕ, List, [], drop, Ok, Err, sym, ap, subst, ◌∙◌}
use Rattle.std.specs.Prelude.{Result}
use Rattle.httparse.specs.Grammar.{RequestHead}
use Rattle.httparse.specs.declared.spans.HeaderSpan.{HeaderSpan}
use Rattle.httparse.specs.declared.spans.RequestSpans.{RequestSpans}
use Rattle.httparse.proofs.GrammarLemmas.{request_unique}
use Rattle.http_edge.specs.declared.fault.HttpFault.{HttpFault}
use Rattle.http_edge.specs.declared.request.Request.{Request}
use Rattle.http_edge.specs.Message.{IsHeadAt}
use Rattle.http_edge.specs.inner.Head.{FindsHead}
use Rattle.http_edge.specs.Reading.{message_of, BeginsWith}
use Rattle.http_edge.specs.inner.Request.{message_at}
use Rattle.http_edge.specs.Form.{IsAnswer, Gives}
use Rattle.http_edge.specs.Answer.{Explains, request_form}

pub message_at_is : (buf : List ℕ) (spans : List HeaderSpan) (r : RequestSpans) (k j : RequestHead)
    (body : List ℕ) → IsHeadAt buf k [] → FindsHead buf spans r j
    → message_at buf spans r body ≡ message_of k body
message_at_is buf spans r k j body is found =
    let same = request_unique buf j k (drop r.len buf) [] found.at.reads is.reads in
    let fields : message_at buf spans r body ≡ message_of j body =
    cc (found.at.method, found.at.path, found.at.fields) in
    fields ∙ ap (λ (h : RequestHead). message_of h body) same.0

pub answers_of : (r : Result Request HttpFault) (bytes content : List ℕ) (k : RequestHead)
    → Gives request_form (message_of k content) r → BeginsWith bytes (message_of k content)
    → IsAnswer request_form bytes r
answers_of (Ok r) bytes content k is begins = subst (BeginsWith bytes) (sym is) begins
answers_of (Err e) bytes content k is begins =
    subst (λ (f : HttpFault). Explains f bytes) (sym is) tt
