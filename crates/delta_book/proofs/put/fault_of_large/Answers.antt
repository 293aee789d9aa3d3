use Rattle.std.proofs.Common.{◌∙◌, ◌≤◌, ◌++◌, length, map, cond, ap, refl, sym, subst}
use Rattle.std.specs.Prelude.{nat_lt, unwrap_or}
use Rattle.metric_events.specs.Points.{admitted}
use Rattle.metric_events.specs.Series.{series_count}
use Rattle.metric_events.specs.declared.limits.TheConstants.{MAX_SERIES}
use Rattle.delta_book.specs.Tables.{AreCells}
use Rattle.delta_book.specs.inner.Parts.{parts_of}
use Rattle.delta_book.specs.declared.cells.Fill.TheVariants.{SpanOnly}
use Rattle.delta_book.specs.declared.faults.AdmitFault.TheVariants.{TooManySeries, TooLarge}
use Rattle.delta_book.proofs.Parts.{count-parts}
use Rattle.delta_book.proofs.PointFaults.{fault_none}
use Rattle.delta_book.proofs.PutIn.{has_pending, cells_without, all_put, all_spans}
use Rattle.delta_book.proofs.put.fault_of_large.Goals as goal

pub remove_parts-requires : goal.remove_parts-requires
remove_parts-requires c =
    let r = c.requires.some in
    let ps = c.args.points.now in
    let le : length ps ≤ c.in_default.field-0 =
    all_spans c.in_default.field-0 (length ps) _ c.in_default.ensures.over in
    let parts = parts_of SpanOnly ps in
    has_pending c.put_points.new.cells.items c.args.number c.args.sender.now r.0 parts parts refl
    (all_put c.put_points.new.cells.items r.0 c.args.number c.args.sender.now SpanOnly ps
    c.in_default.field-0 le (c.in_default.ensures.put r.0 r.1))

pub returns-clause-kept : goal.returns-clause-kept
returns-clause-kept c = λ qs h.
    let ps = c.args.points.now in
    let le : length ps ≤ c.in_default.field-0 =
    all_spans c.in_default.field-0 (length ps) _ c.in_default.ensures.over in
    let parts = parts_of SpanOnly ps in
    cells_without c.put_points.new.cells.items c.remove_parts.new.cells.items c.args.number
    c.args.sender.now qs parts parts refl c.remove_parts.ensures
    (all_put c.put_points.new.cells.items qs c.args.number c.args.sender.now SpanOnly ps
    c.in_default.field-0 le (c.in_default.ensures.put qs h))

pub returns-clause-fault : goal.returns-clause-fault
returns-clause-fault c = λ qs h.
    let b = c.args.number in
    let s = c.args.sender.now in
    let ps = c.args.points.now in
    let n = c.in_default.field-0 in
    let le : length ps ≤ n = all_spans n (length ps) _ c.in_default.ensures.over in
    let there = all_put c.put_points.new.cells.items qs b s SpanOnly ps n le
    (c.in_default.ensures.put qs h) in
    c.limit_of_large-fault.ensures (qs ++ map (admitted b s) (parts_of SpanOnly ps))
    (subst (λ ks. AreCells ks (qs ++ map (admitted b s) (parts_of SpanOnly ps)))
    (sym c.deref.ensures.value) there)
    ∙ (ap (λ m. cond (nat_lt MAX_SERIES m) TooManySeries TooLarge) (count-parts SpanOnly b s qs ps)
    ∙ ap (λ o. unwrap_or o (cond (nat_lt MAX_SERIES (series_count (qs ++ map (admitted b s) ps)))
    TooManySeries TooLarge))
    (sym (fault_none c.args.first s qs ps n le) ∙ c.in_default.ensures.faults qs h))
