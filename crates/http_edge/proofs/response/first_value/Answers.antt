use Rattle.std.proofs.Common.{Some, refl, ap, sym, ◌∙◌, get_or, ◌≡◌, true, false}
use Rattle.httparse.specs.Spans.{header_bytes, span_bytes}
use Rattle.http_edge.specs.Framing.{values_of, is_named}
use Rattle.http_edge.proofs.FieldLemmas.{unset}
use Rattle.http_edge.proofs.ReplyLemmas.{first_here, values_here, none_more}
use Rattle.http_edge.proofs.response.first_value.Goals as goal

pub loop-header-init : goal.loop-header-init
unfolding values_of
loop-header-init c = refl

pub returns-then-is_named : goal.returns-then-is_named
returns-then-is_named c =
    let i = c.loop-header.header-index in
    let h = get_or c.args.headers.now i unset in
    let named : is_named c.args.name.now (header_bytes c.args.buf.now h) ≡ true =
    sym c.is_named.ensures ∙ c.if-is_named.true in
    ap (λ v. Some v) c.of.ensures ∙ sym
    (first_here c.args.name.now c.args.buf.now c.args.headers.now i unset
    (span_bytes c.args.buf.now h.value) c.loop-header-test.true c.loop-header.invariant
    (values_here c.args.name.now (header_bytes c.args.buf.now h) named))

pub loop-header-preserved : goal.loop-header-preserved
loop-header-preserved c =
    let i = c.loop-header.header-index in
    let h = get_or c.args.headers.now i unset in
    let other : is_named c.args.name.now (header_bytes c.args.buf.now h) ≡ false =
    sym c.is_named.ensures ∙ c.if-is_named.false in
    none_more c.args.name.now c.args.buf.now c.args.headers.now i unset c.loop-header-test.true
    c.loop-header.invariant other
