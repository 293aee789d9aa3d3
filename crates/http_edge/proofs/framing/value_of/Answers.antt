use Rattle.std.proofs.Common.{◌++◌, ◌∷◌, ◌<◌, ◌+◌, [], map, take, ap, sym, refl, ◌∙◌, length}
use Rattle.std.proofs.Common.{get_or, arith}
use Rattle.std.proofs.lemmas.Result.{err_from_is_err_and}
use Rattle.httparse.specs.Spans.{header_bytes}
use Rattle.http_edge.specs.Framing.{values_of}
use Rattle.http_edge.proofs.FieldLemmas.{unset, values_of_more, values_of_grow}
use Rattle.http_edge.proofs.framing.value_of.Goals as goal

pub loop-header-init : goal.loop-header-init
unfolding values_of
loop-header-init c = refl

pub loop-header-preserved : goal.loop-header-preserved
loop-header-preserved c =
    let more = values_of_more c.args.name.now c.args.buf.now c.args.headers.now
    c.loop-header.header-index unset c.loop-header-test.true in
    c.in_ok-found.ensures ∙ ap (λ ws. ws
    ++ values_of c.args.name.now (header_bytes c.args.buf.now
    (get_or c.args.headers.now c.loop-header.header-index unset) ∷ []))
    c.loop-header.invariant ∙ sym more

pub returns-in_err-found : goal.returns-in_err-found
returns-in_err-found c =
    let p = err_from_is_err_and c.from_residual.result c.from_residual.ensures.1 in
    let f = header_bytes c.args.buf.now in
    let more = values_of_more c.args.name.now c.args.buf.now c.args.headers.now
    c.loop-header.header-index unset c.loop-header-test.true in
    let two : 1 < length (values_of c.args.name.now
    (map f (take (c.loop-header.header-index + 1) c.args.headers.now))) =
    rw (more, ← c.loop-header.invariant) c.in_err-found.ensures.1 in
    rw (p.1, p.2) (
      c.in_err-found.ensures.0,
      omega (
        arith,
        two,
        values_of_grow c.args.name.now c.args.buf.now c.args.headers.now
            (c.loop-header.header-index + 1),
      ),
    )
