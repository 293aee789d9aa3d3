use Rattle.std.proofs.Common.{◌≡◌, ◌<◌, ◌++◌, ◌+◌, ◌∷◌, [], List, length, take, sym, ap, subst, ◌∙◌}
use Rattle.std.proofs.Common.{arith, append_assoc}
use Rattle.std.proofs.lemmas.List.{take_more}
use Rattle.metric_events.specs.DataPoint.{DataPoint}
use Rattle.book_desk.specs.Said.{AreSaid}
use Rattle.book_desk.proofs.WordsSaid.{extends_more}
use Rattle.book_desk.proofs.said.say_all.Goals as goal

pub loop-i-preserved : goal.loop-i-preserved
loop-i-preserved c =
    let all = c.args.points.now in
    let l : c.loop-i.i < length all = omega arith in
    let e : take c.loop-i.i all ++ c.index-points-i.result ∷ [] ≡ take (c.loop-i.i + 1) all =
    ap (λ (p : DataPoint). take c.loop-i.i all ++ p ∷ []) c.index-points-i.is
    ∙ sym (take_more all c.loop-i.i c.index-points-i.result l) in
    record {
      said = λ ps s.
          subst (λ (qs : List DataPoint). AreSaid c.say.new.names c.say.new.words.items qs)
          (append_assoc ps (take c.loop-i.i all) (c.index-points-i.result ∷ [])
          ∙ ap (λ (qs : List DataPoint). ps ++ qs) e)
          (c.in_ok-say.ensures.said (ps ++ take c.loop-i.i all) (c.loop-i.invariant.said ps s));
      more = extends_more _ _ _ c.loop-i.invariant.more c.say.ensures.more;
    }
