use Rattle.std.proofs.Common.{◌≡◌, Ok, subst, sym, ◌∙◌}
use Rattle.otlp_read.specs.Reading.{reading}
use Rattle.otlp_read.specs.Tallies.{tally}
use Rattle.json_points.specs.inner.Nodes.{data_at, IsNode}
use Rattle.json_points.specs.inner.Plain.{Plain}
use Rattle.json_points.proofs.TextLemmas.{if_ok_weaker, tape_read, text_says}
use Rattle.json_points.proofs.walk.read_text.Goals as goal

pub of-root-requires : goal.of-root-requires
of-root-requires c =
    let tape = tape_read c.args.text.now c.in-Ok.tape c.in-Ok.ensures.ok c.in-Ok.ensures.value
    (subst (Plain 0) c.nodes.ensures.tokens (c.is_plain.ensures c.if-not-is_plain.false)) in
    subst IsNode (sym c.root.ensures.same) tape.node

pub returns : goal.returns
returns c =
    let tape = tape_read c.args.text.now c.in-Ok.tape c.in-Ok.ensures.ok c.in-Ok.ensures.value
    (subst (Plain 0) c.nodes.ensures.tokens (c.is_plain.ensures c.if-not-is_plain.false)) in
    if_ok_weaker c.read_root.result _ _ (λ r h.
    text_says c.args.text.now c.in-Ok.tape (tally r) c.utf8.text tape
    (subst (λ ts. reading (data_at ts) ≡ Ok (tally r)) (c.of-root.ensures ∙ c.root.ensures.same)
    h)) c.read_root.ensures
