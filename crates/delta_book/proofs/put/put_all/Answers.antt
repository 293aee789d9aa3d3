use Rattle.std.proofs.Common.{◌≡◌, ◌∙◌, ◌++◌, List, map, take, ap, refl, sym, subst, Some, false}
use Rattle.std.proofs.lemmas.List.{take_all}
use Rattle.metric_events.specs.DataPoint.{DataPoint}
use Rattle.metric_events.specs.Legal.{is_too_large}
use Rattle.metric_events.specs.Points.{admitted}
use Rattle.delta_book.specs.Tables.{AreCells}
use Rattle.delta_book.specs.inner.Parts.{parts_of}
use Rattle.delta_book.specs.inner.Puts.{large_fault}
use Rattle.delta_book.specs.declared.cells.Fill.TheVariants.{Point}
use Rattle.delta_book.proofs.Parts.{whole_parts}
use Rattle.delta_book.proofs.PointFaults.{fault_none, large_refused, many_refused, all_passed}
use Rattle.delta_book.proofs.PutIn.{has_pending, cells_without, all_put, then_some}
use Rattle.delta_book.proofs.put.put_all.Goals as goal

pub fault_of_large-fault-requires-clause-some : goal.fault_of_large-fault-requires-clause-some
fault_of_large-fault-requires-clause-some c =
    let r = c.requires in (
      r.0 ++ map (admitted c.args.number c.args.sender.now)
          (parts_of Point (take c.in_ok-count.count c.args.batch.now)),
      c.in_ok-count.ensures.put r.0
          r.1,
    )

pub remove_parts-requires : goal.remove_parts-requires
remove_parts-requires c =
    let r = c.requires in
    let b = c.args.number in
    let s = c.args.sender.now in
    let parts = parts_of Point (take c.in_ok-count.count c.args.batch.now) in
    has_pending c.fault_of_large-fault.new.cells.items b s r.0 parts
    (parts_of Point c.points_to.result.now) (ap (parts_of Point) c.points_to.ensures)
    (c.fault_of_large-fault.ensures.kept (r.0 ++ map (admitted b s) parts)
    (c.in_ok-count.ensures.put r.0 r.1))

pub returns-then-count-batch-clause-kept : goal.returns-then-count-batch-clause-kept
returns-then-count-batch-clause-kept c = λ qs h.
    let b = c.args.number in
    let s = c.args.sender.now in
    let parts = parts_of Point (take c.in_ok-count.count c.args.batch.now) in
    cells_without c.fault_of_large-fault.new.cells.items c.remove_parts.new.cells.items b s qs parts
    (parts_of Point c.points_to.result.now) (ap (parts_of Point) c.points_to.ensures)
    c.remove_parts.ensures (c.fault_of_large-fault.ensures.kept
    (qs ++ map (admitted b s) parts) (c.in_ok-count.ensures.put qs h))

pub returns-then-count-batch-clause-fault : goal.returns-then-count-batch-clause-fault
returns-then-count-batch-clause-fault c =
    let b = c.args.number in
    let s = c.args.sender.now in
    let n = c.in_ok-count.count in
    let ps = c.args.batch.now in
    then_some c.fault_of_large-fault.result _ _
    (λ e k qs h.
    let here = qs ++ map (admitted b s) (parts_of Point (take n ps)) in
    large_refused b s qs ps n (c.in_ok-count.ensures.faults qs h)
    ((c.in_ok-count.ensures.over c.if-count-batch.true).1 qs h)
    ∙ ap Some (sym (k here (c.in_ok-count.ensures.put qs h)
    ∙ ap (large_fault b n here s) c.points_from.ensures)))
    c.fault_of_large-fault.ensures.fault

pub remove_parts-requires-then-exceeds_max_series
    : goal.remove_parts-requires-then-exceeds_max_series
remove_parts-requires-then-exceeds_max_series c =
    let r = c.requires in
    let parts = parts_of Point c.args.batch.now in
    has_pending c.put_points.new.cells.items c.args.number c.args.sender.now r.0 parts parts refl
    (all_put c.put_points.new.cells.items r.0 c.args.number c.args.sender.now Point
    c.args.batch.now c.in_ok-count.count c.if-count-batch.false
    (c.in_ok-count.ensures.put r.0 r.1))

pub returns-then-exceeds_max_series-clause-kept : goal.returns-then-exceeds_max_series-clause-kept
returns-then-exceeds_max_series-clause-kept c = λ qs h.
    let parts = parts_of Point c.args.batch.now in
    cells_without c.put_points.new.cells.items
    c.remove_parts-then-exceeds_max_series.new.cells.items c.args.number c.args.sender.now qs
    parts parts refl c.remove_parts-then-exceeds_max_series.ensures
    (all_put c.put_points.new.cells.items qs c.args.number c.args.sender.now Point
    c.args.batch.now c.in_ok-count.count c.if-count-batch.false
    (c.in_ok-count.ensures.put qs h))

pub returns-then-exceeds_max_series-clause-fault : goal.returns-then-exceeds_max_series-clause-fault
returns-then-exceeds_max_series-clause-fault c = λ qs h.
    let b = c.args.number in
    let s = c.args.sender.now in
    let n = c.in_ok-count.count in
    let ps = c.args.batch.now in
    let there = subst (λ (xs : List DataPoint). AreCells c.put_points.new.cells.items
    (qs ++ map (admitted b s) xs)) (whole_parts ps)
    (all_put c.put_points.new.cells.items qs b s Point ps n c.if-count-batch.false
    (c.in_ok-count.ensures.put qs h)) in
    many_refused b s qs ps (sym (c.in_ok-count.ensures.faults qs h)
    ∙ fault_none 0 s qs ps n c.if-count-batch.false)
    (sym (c.exceeds_max_series.ensures (qs ++ map (admitted b s) ps)
    (subst (λ ks. AreCells ks (qs ++ map (admitted b s) ps)) (sym c.deref.ensures.value)
    there)) ∙ c.if-exceeds_max_series.true)

pub returns-clause-put : goal.returns-clause-put
returns-clause-put c = λ qs h.
    subst (λ (xs : List DataPoint). AreCells c.put_points.new.cells.items
    (qs ++ map (admitted c.args.number c.args.sender.now) xs)) (whole_parts c.args.batch.now)
    (all_put c.put_points.new.cells.items qs c.args.number c.args.sender.now Point c.args.batch.now
    c.in_ok-count.count c.if-count-batch.false (c.in_ok-count.ensures.put qs h))

pub returns-clause-none : goal.returns-clause-none
returns-clause-none c = λ qs h.
    let b = c.args.number in
    let s = c.args.sender.now in
    let n = c.in_ok-count.count in
    let ps = c.args.batch.now in
    let there = subst (λ (xs : List DataPoint). AreCells c.put_points.new.cells.items
    (qs ++ map (admitted b s) xs)) (whole_parts ps)
    (all_put c.put_points.new.cells.items qs b s Point ps n c.if-count-batch.false
    (c.in_ok-count.ensures.put qs h)) in
    all_passed b s qs ps (sym (c.in_ok-count.ensures.faults qs h)
    ∙ fault_none 0 s qs ps n c.if-count-batch.false)
    (sym (c.exceeds_max_series.ensures (qs ++ map (admitted b s) ps)
    (subst (λ ks. AreCells ks (qs ++ map (admitted b s) ps)) (sym c.deref.ensures.value)
    there)) ∙ c.if-exceeds_max_series.false)
    (subst (λ (xs : List DataPoint). is_too_large (qs ++ map (admitted b s) xs) xs ≡ false)
    (take_all n ps c.if-count-batch.false) (c.in_ok-count.ensures.within refl qs h))
