use Rattle.std.proofs.Common.{map, arith, sym, subst}
use Rattle.std.proofs.lemmas.List.{at_drop_all}
use Rattle.json.specs.Tape.{node_token}
use Rattle.json_points.specs.inner.Plain.{Plain}
use Rattle.json_points.proofs.plain.is_plain.Goals as goal

pub returns : goal.returns
unfolding Plain
returns c _ =
    c.loop-node.invariant.rest (subst (λ ts. Plain c.loop-node.depth ts)
    (sym (at_drop_all (map node_token) c.args.nodes.now c.loop-node.node-index (omega arith)))
    tt)
