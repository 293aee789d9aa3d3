use Rattle.std.proofs.Common.{◌≡◌, ◌∙◌, ap, sym, arith, length, map, take}
use Rattle.metric_events.specs.Points.{points}
use Rattle.metric_events.specs.Choice.{present}
use Rattle.delta_book.specs.inner.AtHome.{home_point}
use Rattle.delta_book.proofs.Choosing.{first_upto, none_ids}
use Rattle.delta_book.proofs.Preparing.{ready_push, ready_skip, few_push, points_push}
use Rattle.delta_book.proofs.Tables.{stands_at}
use Rattle.delta_book.proofs.flush.prepare.Goals as goal
use Rattle.delta_book.proofs.flush.prepare.Goals.{then-is_ready+in_ok-share+in_ok-push+in_ok-home_of+in_ok-push_some}
use Rattle.delta_book.proofs.flush.prepare.Goals.{else-is_ready}

pub home_of-requires : goal.home_of-requires
home_of-requires c = (
  c.requires.booked.0,
  (
    c.requires.booked.1.0,
    stands_at c.args.cells.now (points c.requires.booked.0) c.loop-i.i
        c.index-cells-i.result c.loop-i-test.true c.index-cells-i.is c.requires.booked.1.1.stand,
  ),
)

pub loop-i-preserved : goal.loop-i-preserved
loop-i-preserved c =
    let held = c.args.held.now in
    let cs = c.args.cells.now in
    let i = c.loop-i.i in
    let cell = c.index-cells-i.result in
    elim c.if-is_ready.branch [
      | then-is_ready+in_ok-share+in_ok-push+in_ok-home_of+in_ok-push_some w ↦
          let same = w.in_ok-share.ensures ∙ w.shared_id.ensures in
          record {
            found = rw w.found-is (ready_push held cs i cell _ _ _ c.loop-i-test.true
                c.index-cells-i.is (sym c.is_ready.ensures ∙ w.if-is_ready.true)
                c.loop-i.invariant.found w.in_ok-push.ensures.items same);
            few = rw w.found-is (few_push _ _ _ c.args.max w.in_ok-push.ensures.items
                (omega (arith, c.if-len-max.false, c.len.ensures)));
            points = λ qs h. rw (w.points-is, w.found-is)
                (points_push (home_point qs) _ _ _ cell.id _ _ _ w.in_ok-push.ensures.items same
                (c.loop-i.invariant.points qs h) w.in_ok-push_some.ensures
                (w.in_ok-home_of.ensures qs
                (stands_at cs qs i cell c.loop-i-test.true c.index-cells-i.is
                h.stand)));
          }
      | else-is_ready w ↦
          record {
            found = rw w.found-is (c.loop-i.invariant.found
                ∙ ready_skip held cs i cell c.loop-i-test.true c.index-cells-i.is
                (sym c.is_ready.ensures ∙ w.if-is_ready.false));
            few = rw w.found-is c.loop-i.invariant.few;
            points = λ qs h. rw (w.points-is, w.found-is) (c.loop-i.invariant.points qs h);
          }
    ]

pub returns-then-len-max-clause-series : goal.returns-then-len-max-clause-series
returns-then-len-max-clause-series c =
    let n : length c.loop-i.found.items ≡ c.args.max =
    omega (arith, c.if-len-max.true, c.len.ensures, c.loop-i.invariant.few) in
    c.new-series.ensures ∙ (c.loop-i.invariant.found
    ∙ first_upto c.args.held.now c.args.cells.now c.loop-i.i c.args.max
    (sym (ap length c.loop-i.invariant.found) ∙ n))

pub returns-then-len-max-clause-points : goal.returns-then-len-max-clause-points
returns-then-len-max-clause-points c = λ qs h.
    let n : length c.loop-i.found.items ≡ c.args.max =
    omega (arith, c.if-len-max.true, c.len.ensures, c.loop-i.invariant.few) in
    c.loop-i.invariant.points qs h ∙ ap (λ xs. present (map (home_point qs) xs))
    (c.loop-i.invariant.found ∙ first_upto c.args.held.now c.args.cells.now c.loop-i.i
    c.args.max (sym (ap length c.loop-i.invariant.found) ∙ n))

pub loop-i-init : goal.loop-i-init
loop-i-init c = record {
  found = c.new-found.ensures.items
      ∙ sym (none_ids c.args.held.now (take c.args.from c.args.cells.now) c.requires.none);
  few = omega (arith, ap length c.new-found.ensures.items);
  points = λ qs h. c.new-points.ensures
      ∙ sym (ap (λ xs. present (map (home_point qs) xs)) c.new-found.ensures.items);
}
