use Rattle.std.proofs.Common.{sym, ◌∙◌}
use Rattle.otlp_protobuf.proofs.ListLemmas.{no_front, one_more, one_stops, all_read, numbers_over}
use Rattle.otlp_protobuf.proofs.numbers.numbers_in.Goals as goal

pub loop-bits-init : goal.loop-bits-init
loop-bits-init g c = rw (c.in_ok-found.ensures.items, c.of-rest.ensures) (no_front _)

pub loop-bits-preserved : goal.loop-bits-preserved
loop-bits-preserved g c =
    rw c.in_ok-push.ensures.items (one_more g.T.Number.shows g.T.Number.reads
    c.loop-bits.found.items c.in-Some-of_bits.element _ c.in-Some.bits _ _ c.in-Some.ensures
    (sym c.of_bits.ensures ∙ c.in-Some-of_bits.is) c.loop-bits.invariant)

pub returns-in_default-of_bits : goal.returns-in_default-of_bits
returns-in_default-of_bits g c =
    sym (one_stops g.T.Number.shows g.T.Number.reads c.loop-bits.found.items _ c.in-Some.bits
    _ _ c.in-Some.ensures (sym c.of_bits.ensures ∙ c.in_default-of_bits.is)
    c.loop-bits.invariant)

pub returns : goal.returns
returns g c =
    sym (all_read g.T.Number.shows g.T.Number.reads c.loop-bits.found.items
    _ _ (numbers_over _ _ c.next.result c.next.ensures c.in_default.is) c.loop-bits.invariant)
