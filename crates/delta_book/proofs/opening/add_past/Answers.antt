use Rattle.std.proofs.Common.{◌+◌, ◌++◌, ◌∷◌, [], ◌∙◌, ap, sym, add-one, take, get_or}
use Rattle.metric_events.specs.Rows.{add_rows}
use Rattle.delta_book.proofs.Handing.{grown_next}
use Rattle.delta_book.proofs.opening.add_past.Goals as goal

pub loop-k-preserved : goal.loop-k-preserved
loop-k-preserved c =
    c.in_ok-push.ensures.items
    ∙ (ap (λ n. c.loop-k.words.items ++ (n + get_or c.args.past.now c.loop-k.k 0) ∷ [])
    c.from.ensures
    ∙ (ap (λ ws. ws ++ (get_or c.args.row.now c.loop-k.k 0 + get_or c.args.past.now c.loop-k.k 0)
    ∷ []) c.loop-k.invariant
    ∙ (grown_next c.args.row.now c.args.past.now c.loop-k.k 0 0 c.loop-k-test.true c.requires.long
    ∙ ap (λ n. add_rows (take n c.args.row.now) (take n c.args.past.now))
    (sym (add-one c.loop-k.k)))))
