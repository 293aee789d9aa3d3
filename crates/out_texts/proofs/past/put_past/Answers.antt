use Rattle.std.proofs.Common.{ap, ◌++◌, ◌∙◌, sym, take}
use Rattle.std.proofs.lemmas.List.Folds.{flat_map-map}
use Rattle.delta_book.specs.PastRows.{past_row}
use Rattle.out_texts.specs.Past.{past_line}
use Rattle.out_texts.proofs.Putting.{put_next}
use Rattle.out_texts.proofs.past.put_past.Goals as goal

pub loop-past-preserved : goal.loop-past-preserved
loop-past-preserved c =
    let i = c.loop-past.past-index in
    let rows = c.args.rows.now in
    let start = c.args.out.now.items in
    put_next (λ p. past_line (past_row p)) rows i c.past-item.result _ start c.loop-past.out.items
    c.put_line.new.out.items
    c.loop-past-test.true c.past-item.is c.in_ok-put_line.ensures
    (c.loop-past.invariant
    ∙ ap (λ t. start ++ t) (flat_map-map past_line past_row (take i rows)))
    ∙ ap (λ t. start ++ t) (sym (flat_map-map past_line past_row _))
