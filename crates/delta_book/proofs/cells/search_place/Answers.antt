use Rattle.std.proofs.Common.{◌≡◌, ◌∙◌, ◌+◌, ◌-◌, ◌/◌, ◌<◌, ap, sym, arith, length, drop, subst}
use Rattle.std.proofs.Common.{true}
use Rattle.std.specs.List.{list_all}
use Rattle.series_id.specs.Order.{series_cmp, series_before}
use Rattle.delta_book.specs.Tables.{id_of}
use Rattle.delta_book.proofs.Tables.{id_at}
use Rattle.delta_book.proofs.Searching.{below_to, above_from, gap_between, middle_lt, when_equal}
use Rattle.delta_book.proofs.Searching.{when_less, when_greater}
use Rattle.delta_book.proofs.cells.search_place.Goals as goal

pub returns-in-Equal : goal.returns-in-Equal
returns-in-Equal c =
    let m = c.loop-low.low + (c.loop-low.high - c.loop-low.low) / 2 in
    let l : m < length c.args.cells.now =
    omega (
      arith,
      middle_lt c.loop-low.low c.loop-low.high c.loop-low-test.true,
      c.loop-low.invariant.ends,
    ) in
    let cell = c.index-cells-middle.result in (
      l,
      id_at c.args.cells.now m cell c.args.series.now l c.index-cells-middle.is
          (sym (when_equal c.args.series.now cell.id
          (ap (series_cmp c.args.series.now) (sym c.id.ensures)
          ∙ (sym c.cmp.ensures ∙ c.in-Equal.is)))),
    )

pub loop-low-preserved-in-Less : goal.loop-low-preserved-in-Less
loop-low-preserved-in-Less c =
    let m = c.loop-low.low + (c.loop-low.high - c.loop-low.low) / 2 in
    let k : m < c.loop-low.high = middle_lt c.loop-low.low c.loop-low.high c.loop-low-test.true in
    let l : m < length c.args.cells.now = omega (arith, k, c.loop-low.invariant.ends) in
    let cell = c.index-cells-middle.result in
    record {
      ends = omega (arith, k, c.loop-low.invariant.ends);
      order = omega arith;
      below = c.loop-low.invariant.below;
      above = λ u. above_from id_of c.args.series.now c.args.cells.now m cell u l
          c.index-cells-middle.is (when_less c.args.series.now cell.id
          (ap (series_cmp c.args.series.now) (sym c.id.ensures)
          ∙ (sym c.cmp.ensures ∙ c.in-Less.is)));
    }

pub loop-low-preserved : goal.loop-low-preserved
loop-low-preserved c =
    let m = c.loop-low.low + (c.loop-low.high - c.loop-low.low) / 2 in
    let k : m < c.loop-low.high = middle_lt c.loop-low.low c.loop-low.high c.loop-low-test.true in
    let l : m < length c.args.cells.now = omega (arith, k, c.loop-low.invariant.ends) in
    let cell = c.index-cells-middle.result in
    record {
      ends = c.loop-low.invariant.ends;
      order = omega (arith, k);
      below = λ u. below_to id_of c.args.series.now c.args.cells.now m cell u l
          c.index-cells-middle.is (when_greater c.args.series.now cell.id
          (ap (series_cmp c.args.series.now) (sym c.id.ensures)
          ∙ (sym c.cmp.ensures ∙ c.in-Greater.is)));
      above = c.loop-low.invariant.above;
    }

pub returns : goal.returns
returns c =
    let n : c.loop-low.high ≡ c.loop-low.low =
    omega (arith, c.loop-low-test.false, c.loop-low.invariant.order) in (
      omega (arith, n, c.loop-low.invariant.ends),
      λ u. gap_between c.args.series.now c.args.cells.now c.loop-low.low
          (omega (arith, n, c.loop-low.invariant.ends)) (c.loop-low.invariant.below u)
          (subst (λ j. list_all (λ d. series_before c.args.series.now d.id)
          (drop j c.args.cells.now) ≡ true) n (c.loop-low.invariant.above u)),
    )
