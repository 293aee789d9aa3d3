use Rattle.std.proofs.Common.{sym, ◌∙◌}
use Rattle.std.proofs.lemmas.List.{take_rest}
use Rattle.http_edge.specs.Request.{headers_in}
use Rattle.http_edge.proofs.HeaderLemmas.{named_here, other_here, none_left, values_of_found}
use Rattle.http_edge.proofs.request.find_in.Goals as goal

pub loop-i-preserved : goal.loop-i-preserved
loop-i-preserved c =
    c.loop-i.invariant ∙ other_here c.args.name.now c.args.headers.now c.loop-i.i
    c.index-headers-i.result c.loop-i-test.true c.index-headers-i.is
    (sym c.is_named.ensures ∙ c.if-is_named.false)

pub returns-then-is_named-clause-first : goal.returns-then-is_named-clause-first
returns-then-is_named-clause-first c =
    simp take_rest (rw c.as_slice.ensures.value
    (sym (c.loop-i.invariant ∙ named_here c.args.name.now c.args.headers.now c.loop-i.i
    c.index-headers-i.result c.loop-i-test.true c.index-headers-i.is
    (sym c.is_named.ensures ∙ c.if-is_named.true))))

pub returns-then-is_named-clause-values : goal.returns-then-is_named-clause-values
returns-then-is_named-clause-values c =
    simp take_rest (rw c.as_slice.ensures.value
    (values_of_found c.args.name.now (headers_in c.args.headers.now)
    _ (sym (c.loop-i.invariant ∙ named_here c.args.name.now c.args.headers.now c.loop-i.i
    c.index-headers-i.result c.loop-i-test.true c.index-headers-i.is
    (sym c.is_named.ensures ∙ c.if-is_named.true)))))

pub returns-clause-first : goal.returns-clause-first
returns-clause-first c = sym (c.loop-i.invariant
    ∙ none_left c.args.name.now c.args.headers.now c.loop-i.i c.loop-i-test.false)

pub returns-clause-values : goal.returns-clause-values
returns-clause-values c = values_of_found c.args.name.now (headers_in c.args.headers.now)
    _ (sym (c.loop-i.invariant
    ∙ none_left c.args.name.now c.args.headers.now c.loop-i.i c.loop-i-test.false))
