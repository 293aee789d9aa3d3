use Rattle.std.proofs.Common.{codes, sym}
use Rattle.out_texts.proofs.Putting.{put_two}
use Rattle.out_texts.specs.Past.{past_rows}
use Rattle.out_texts.specs.Rows.{labeled_row}
use Rattle.out_texts.proofs.past.put_ended_rows.Goals as goal

pub returns : goal.returns
unfolding past_rows
returns c =
    rw (sym c.as_slice.ensures.value, sym c.as_slice-2.ensures.value)
    (put_two c.put_labeled_row-2.result c.args.out.now.items
    (labeled_row (codes " acknowledged ") c.as_slice.result.now)
    (labeled_row (codes " dropped ") c.as_slice-2.result.now)
    _ _ c.in_ok-put_labeled_row.ensures c.put_labeled_row-2.ensures)
