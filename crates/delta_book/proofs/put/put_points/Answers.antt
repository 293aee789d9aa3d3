use Rattle.std.proofs.Common.{◌≡◌, ◌∙◌, ◌+◌, ◌++◌, List, length, map, take, true, ap, sym, subst}
use Rattle.std.proofs.Common.{arith}
use Rattle.std.proofs.lemmas.List.{take_all}
use Rattle.metric_events.specs.DataPoint.{DataPoint}
use Rattle.metric_events.specs.Points.{admitted}
use Rattle.metric_events.specs.declared.accepted.Accepted.{Accepted}
use Rattle.delta_book.specs.Tables.{AreCells}
use Rattle.delta_book.specs.inner.Parts.{parts_of}
use Rattle.delta_book.specs.inner.Puts.{RejectsAt, fits_with}
use Rattle.delta_book.specs.declared.put.Rejection.{Rejection}
use Rattle.delta_book.proofs.Large.{within_more}
use Rattle.delta_book.proofs.Parts.{whole_parts}
use Rattle.delta_book.proofs.PointFaults.{put_one, fault_passed, fault_stopped, too_large_at}
use Rattle.delta_book.proofs.PutIn.{has_pending, cells_without}
use Rattle.delta_book.proofs.put.put_points.Goals as goal

pub put_next-requires : goal.put_next-requires
put_next-requires c =
    let r = c.requires.some in (
      r.0 ++ map (admitted c.args.number c.args.sender.now)
          (parts_of c.args.fill (take c.loop-i.i c.args.points.now)),
      c.loop-i.invariant.put r.0 r.1,
    )

pub returns-in-TooLarge-clause-over : goal.returns-in-TooLarge-clause-over
returns-in-TooLarge-clause-over c = λ l.
    let i = c.loop-i.i in
    let b = c.args.number in
    let s = c.args.sender.now in
    let ps = c.args.points.now in
    let p = c.index-points-i.result in
    let fill = c.args.fill in
    let told = subst (λ (e : Rejection). (qs : List Accepted) → AreCells c.loop-i.cells.items qs
    → RejectsAt e fill qs s (c.args.first + i) p) c.in-TooLarge.is c.in-Err.ensures.rejection in
    let here = λ (qs : List Accepted) (h : AreCells c.args.cells.now.items qs). told
    (qs ++ map (admitted b s) (parts_of fill (take i ps))) (c.loop-i.invariant.put qs h) in
    let r = c.requires.some in (
      (here r.0 r.1).0,
      λ qs h. too_large_at fill b s qs ps i p c.loop-i-test.true
          c.index-points-i.is (here qs h),
    )

pub remove_parts-requires : goal.remove_parts-requires
remove_parts-requires c =
    let r = c.requires.some in
    let before = parts_of c.args.fill (take c.loop-i.i c.args.points.now) in
    has_pending c.put_next.new.cells.items c.args.number c.args.sender.now r.0 before
    (parts_of c.args.fill c.points_to.result.now)
    (ap (parts_of c.args.fill) c.points_to.ensures)
    (subst (λ ks. AreCells ks (r.0 ++ map (admitted c.args.number c.args.sender.now) before))
    (sym c.in-Err.ensures.kept) (c.loop-i.invariant.put r.0 r.1))

pub returns-in-Fault-clause-kept : goal.returns-in-Fault-clause-kept
returns-in-Fault-clause-kept c = λ qs h.
    let before = parts_of c.args.fill (take c.loop-i.i c.args.points.now) in
    cells_without c.put_next.new.cells.items c.remove_parts.new.cells.items c.args.number
    c.args.sender.now qs before (parts_of c.args.fill c.points_to.result.now)
    (ap (parts_of c.args.fill) c.points_to.ensures) c.remove_parts.ensures
    (subst (λ ks. AreCells ks (qs ++ map (admitted c.args.number c.args.sender.now) before))
    (sym c.in-Err.ensures.kept) (c.loop-i.invariant.put qs h))

pub returns-in-Fault-clause-fault : goal.returns-in-Fault-clause-fault
returns-in-Fault-clause-fault c = λ qs h.
    let i = c.loop-i.i in
    let b = c.args.number in
    let s = c.args.sender.now in
    let ps = c.args.points.now in
    let p = c.index-points-i.result in
    let fill = c.args.fill in
    let before = qs ++ map (admitted b s) (parts_of fill (take i ps)) in
    let told = subst (λ (e : Rejection). (rs : List Accepted) → AreCells c.loop-i.cells.items rs
    → RejectsAt e fill rs s (c.args.first + i) p) c.in-Fault.is c.in-Err.ensures.rejection in
    sym (c.loop-i.invariant.fault qs h)
    ∙ fault_stopped fill b c.args.first s qs ps i p c.in-Fault.fault c.loop-i-test.true
    c.index-points-i.is (told before (c.loop-i.invariant.put qs h))

pub remove_parts-requires-in-NoMemory : goal.remove_parts-requires-in-NoMemory
remove_parts-requires-in-NoMemory c =
    let r = c.requires.some in
    let before = parts_of c.args.fill (take c.loop-i.i c.args.points.now) in
    has_pending c.put_next.new.cells.items c.args.number c.args.sender.now r.0 before
    (parts_of c.args.fill c.points_to-in-NoMemory.result.now)
    (ap (parts_of c.args.fill) c.points_to-in-NoMemory.ensures)
    (subst (λ ks. AreCells ks (r.0 ++ map (admitted c.args.number c.args.sender.now) before))
    (sym c.in-Err.ensures.kept) (c.loop-i.invariant.put r.0 r.1))

pub returns-in-NoMemory-clause-kept : goal.returns-in-NoMemory-clause-kept
returns-in-NoMemory-clause-kept c = λ qs h.
    let before = parts_of c.args.fill (take c.loop-i.i c.args.points.now) in
    cells_without c.put_next.new.cells.items c.remove_parts-in-NoMemory.new.cells.items
    c.args.number c.args.sender.now qs before
    (parts_of c.args.fill c.points_to-in-NoMemory.result.now)
    (ap (parts_of c.args.fill) c.points_to-in-NoMemory.ensures)
    c.remove_parts-in-NoMemory.ensures
    (subst (λ ks. AreCells ks (qs ++ map (admitted c.args.number c.args.sender.now) before))
    (sym c.in-Err.ensures.kept) (c.loop-i.invariant.put qs h))

pub loop-i-preserved : goal.loop-i-preserved
loop-i-preserved c =
    let i = c.loop-i.i in
    let b = c.args.number in
    let s = c.args.sender.now in
    let ps = c.args.points.now in
    let p = c.index-points-i.result in
    let fill = c.args.fill in
    let here = λ (qs : List Accepted). qs ++ map (admitted b s) (parts_of fill (take i ps)) in
    record {
      put = λ qs h.
          subst (AreCells c.put_next.new.cells.items)
          (sym (put_one fill b s qs ps i p c.loop-i-test.true c.index-points-i.is))
          (c.in_default.ensures.put (here qs) (c.loop-i.invariant.put qs h));
      fault = λ qs h.
          sym (fault_passed fill b c.args.first s qs ps i p c.loop-i-test.true c.index-points-i.is
          (c.in_default.ensures.next (here qs) (c.loop-i.invariant.put qs h)))
          ∙ c.loop-i.invariant.fault qs h;
      within = λ w qs h.
          within_more b s qs ps i p c.loop-i-test.true c.index-points-i.is
          (subst (λ (xs : List DataPoint). fits_with (qs ++ map (admitted b s) xs) p ≡ true)
          (ap (λ q. parts_of q (take i ps)) w ∙ whole_parts (take i ps))
          (c.in_default.ensures.within w (here qs) (c.loop-i.invariant.put qs h)))
          (c.loop-i.invariant.within w qs h);
    }

pub returns-clause-put : goal.returns-clause-put
returns-clause-put c = λ qs h.
    let ps = c.args.points.now in
    subst (λ (xs : List DataPoint). AreCells c.loop-i.cells.items
    (qs ++ map (admitted c.args.number c.args.sender.now) (parts_of c.args.fill xs)))
    (take_all c.loop-i.i ps c.loop-i-test.false
    ∙ sym (take_all (length ps) ps (omega arith))) (c.loop-i.invariant.put qs h)
