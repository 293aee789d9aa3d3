use Rattle.std.proofs.Common.{sym}
use Rattle.std.proofs.lemmas.List.{take_rest}
use Rattle.out_texts.proofs.histogram_points.histogram_point_value.Goals as goal

pub returns-in-None : goal.returns-in-None
returns-in-None c =
    rw (sym (rw c.row-row.ensures.value at c.total_of.ensures), c.in-None.is)
    (rw (
      c.in_ok-attributes.ensures,
      c.attrs.ensures,
      c.series.ensures,
      c.from.ensures,
      c.from-2.ensures,
      c.in_ok-counts.ensures,
      c.count_of.ensures,
      c.in_ok-bounds.ensures,
      c.start.ensures,
      c.span.ensures,
      c.end.ensures.value,
      c.span-2.ensures,
      take_rest
          c.row-row.result.now 3,
      c.row-row.ensures.value,
    ) at
    (c.finish.ensures _ (c.decimal-value.ensures
    _ (c.decimal-2.ensures _ (c.value-3.ensures
    _ (c.decimal.ensures
    _ (c.value-2.ensures _ (c.value.ensures _ c.new.ensures))))))))

pub returns-in-Some : goal.returns-in-Some
returns-in-Some c =
    rw (sym (rw c.row-row.ensures.value at c.total_of.ensures), c.in-Some.is)
    (rw (
      c.in_ok-attributes.ensures,
      c.attrs.ensures,
      c.series.ensures,
      c.from.ensures,
      c.from-2.ensures,
      c.in_ok-counts.ensures,
      c.count_of.ensures,
      c.in_ok-bounds.ensures,
      c.start.ensures,
      c.span.ensures,
      c.end.ensures.value,
      c.span-2.ensures,
      c.from-in-Some.ensures,
      take_rest c.row-row.result.now 3,
      c.row-row.ensures.value,
    )
    at (c.finish-in-Some.ensures
    _ (c.value-in-Some.ensures
    _ (c.decimal-value.ensures
    _ (c.decimal-2.ensures _ (c.value-3.ensures
    _ (c.decimal.ensures _ (c.value-2.ensures
    _ (c.value.ensures _ c.new.ensures)))))))))
