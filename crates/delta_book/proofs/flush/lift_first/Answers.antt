use Rattle.std.proofs.Common.{◌≡◌, ◌∙◌, ◌+◌, ◌<◌, ◌++◌, ◌∷◌, [], refl, sym, ap, subst, arith}
use Rattle.std.proofs.Common.{length, map, take, drop, set, get_or, true, false, length-append}
use Rattle.std.specs.List.{list_any}
use Rattle.metric_events.specs.Series.{of_series}
use Rattle.series_cell.specs.Cells.{lifted}
use Rattle.series_cell.proofs.Points.{moves_lifted}
use Rattle.std.proofs.lemmas.List.{set-get_or, drop-set-lt}
use Rattle.delta_book.specs.inner.Ready.{is_ready, ready_ids}
use Rattle.delta_book.specs.Tables.{AreCells}
use Rattle.delta_book.specs.inner.Tables.{ForPoints, on_series}
use Rattle.delta_book.proofs.Choosing.{first_upto, none_ids}
use Rattle.delta_book.proofs.Lifting.{rest_next, lifted_next, none_set}
use Rattle.delta_book.proofs.Preparing.{ready_push, ready_skip}
use Rattle.delta_book.proofs.Tables.{on_nil, stands_at}
use Rattle.delta_book.proofs.flush.lift_first.Goals as goal
use Rattle.delta_book.proofs.flush.lift_first.Goals.{then-lift_ready, else-lift_ready}

pub loop-i-init : goal.loop-i-init
loop-i-init c =
    let g = lifted c.args.flush in
    let cs = c.args.cells.now in
    let none = none_ids c.args.held.now (take c.args.from cs) c.requires in
    record {
      cells = λ qs h. subst (λ xs. AreCells cs (map (on_series g xs) qs)) (sym none)
          (subst (AreCells cs) (sym (on_nil g qs)) h);
      over = λ qs h. c.requires;
      rest = refl;
      count = omega (arith, ap length none);
    }

pub returns-then-left-eq0-clause-lifted : goal.returns-then-left-eq0-clause-lifted
returns-then-left-eq0-clause-lifted c = λ qs h.
    let n : length (ready_ids c.args.held.now (take c.loop-i.i c.args.cells.now)) ≡ c.args.max =
    omega (arith, c.if-left-eq0.true, c.loop-i.invariant.count) in
    subst (λ xs. AreCells c.loop-i.cells (map (on_series (lifted c.args.flush) xs) qs))
    (first_upto c.args.held.now c.args.cells.now c.loop-i.i c.args.max n)
    (c.loop-i.invariant.cells qs h)

pub loop-i-preserved : goal.loop-i-preserved
loop-i-preserved c =
    let held = c.args.held.now in
    let cs = c.args.cells.now in
    let ds = c.loop-i.cells in
    let i = c.loop-i.i in
    let g = lifted c.args.flush in
    let cell = get_or ds i c.index-cells-i.result in
    let lt = c.loop-i-test.true in
    let ld : i < length ds = omega (arith, lt, c.loop-i.auto.cells) in
    let here : cell ≡ get_or ds i cell = ap (get_or ds i) c.index-cells-i.is in
    let r = rest_next ds cs i cell ld c.loop-i.auto.cells here c.loop-i.invariant.rest in
    let rest : drop (i + 1) (set ds i c.lift_ready.new.cell) ≡ drop (i + 1) cs =
    drop-set-lt (i + 1) ds i c.lift_ready.new.cell (omega arith) ∙ r.1 in
    let over : ForPoints cs (λ _. list_any (is_ready held)
    (take (i + 1) (set ds i c.lift_ready.new.cell)) ≡ false) = λ qs h.
    let qs1 = map (on_series g (ready_ids held (take i cs))) qs in
    none_set (is_ready held) ds i c.lift_ready.new.cell ld (c.loop-i.invariant.over qs h)
    (c.lift_ready.ensures.over (of_series cell.id qs1)
    (stands_at ds qs1 i cell ld here (c.loop-i.invariant.cells qs h).stand)) in
    elim c.if-lift_ready.branch [
      | then-lift_ready w ↦
          let is : is_ready held cell ≡ true =
          sym c.lift_ready.ensures.ready ∙ w.if-lift_ready.true in
          let xs = ready_ids held (take i cs) in
          record {
            cells = λ qs h. lifted_next g (moves_lifted c.args.flush) held cs ds qs i cell
                c.lift_ready.new.cell h (c.loop-i.invariant.cells qs h) lt ld r.0 here is
                c.lift_ready.ensures.same.id (c.lift_ready.ensures.lifted w.if-lift_ready.true);
            over = over;
            rest = rest;
            count = omega (
              arith,
              w.left-is,
              c.if-left-eq0.false,
              c.loop-i.invariant.count,
              length-append xs (cell.id ∷ []),
              ap length
                  (ready_push held cs i cell xs (xs ++ cell.id ∷ []) cell.id lt r.0 is refl refl
                  refl),
            );
          }
      | else-lift_ready w ↦
          let skip = ready_skip held cs i cell lt r.0
          (sym c.lift_ready.ensures.ready ∙ w.if-lift_ready.false) in
          let same : set ds i c.lift_ready.new.cell ≡ ds =
          ap (set ds i) (c.lift_ready.ensures.kept w.if-lift_ready.false)
          ∙ set-get_or ds i c.index-cells-i.result in
          record {
            cells = λ qs h. subst (λ ks. AreCells ks
                (map (on_series g (ready_ids held (take (i + 1) cs))) qs)) (sym same)
                (subst (λ xs. AreCells ds (map (on_series g xs) qs)) skip
                (c.loop-i.invariant.cells qs h));
            over = over;
            rest = rest;
            count = omega (arith, w.left-is, c.loop-i.invariant.count, ap length skip);
          }
    ]
