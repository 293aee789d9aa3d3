use Rattle.std.proofs.Common.{◌≡◌, ◌∙◌, ◌+◌, ◌-◌, ◌/◌, ◌<◌, ap, sym, arith, length, drop, subst}
use Rattle.std.proofs.Common.{true}
use Rattle.std.specs.List.{list_all}
use Rattle.series_id.specs.Order.{series_cmp, series_before}
use Rattle.metric_events.specs.Close.{past}
use Rattle.metric_events.specs.Opening.{series_of}
use Rattle.metric_events.specs.Series.{is_ascending}
use Rattle.metric_events.specs.declared.opened_series.OpenedSeries.{OpenedSeries}
use Rattle.delta_book.proofs.Handing.{entry_of}
use Rattle.delta_book.proofs.Searching.{below_to, above_from, middle_lt, past_found, none_past}
use Rattle.delta_book.proofs.Searching.{when_equal, when_less, when_greater}
use Rattle.delta_book.proofs.opening.find_past.Goals as goal

pub returns-in-Equal : goal.returns-in-Equal
returns-in-Equal c =
    let ss = c.as_slice-opened.result.now in
    let m = c.loop-low.low + (c.loop-low.high - c.loop-low.low) / 2 in
    let l : m < length ss = omega (
      arith,
      middle_lt c.loop-low.low c.loop-low.high
          c.loop-low-test.true,
      c.loop-low.invariant.ends,
    ) in
    let s = c.index-opened-middle.result in
    let k : s.series ≡ c.args.series.now =
    sym (when_equal c.args.series.now s.series
    (ap (series_cmp c.args.series.now) (sym c.as_series.ensures)
    ∙ (sym c.cmp.ensures ∙ c.in-Equal.is))) in
    let u : is_ascending (series_of ss) ≡ true =
    ap (λ ts. is_ascending (series_of ts)) c.as_slice-opened.ensures ∙ c.requires.ordered in
    record {
      made = entry_of c.args.before.now ss m s c.requires c.as_slice-opened.ensures l
          c.index-opened-middle.is;
      series = k;
      past = λ f. ap (past f c.args.series.now) (sym c.as_slice-opened.ensures)
          ∙ past_found f c.args.series.now ss m s u l c.index-opened-middle.is k;
    }

pub loop-low-preserved-in-Less : goal.loop-low-preserved-in-Less
loop-low-preserved-in-Less c =
    let ss = c.as_slice-opened.result.now in
    let m = c.loop-low.low + (c.loop-low.high - c.loop-low.low) / 2 in
    let k : m < c.loop-low.high = middle_lt c.loop-low.low c.loop-low.high c.loop-low-test.true in
    let l : m < length ss = omega (arith, k, c.loop-low.invariant.ends) in
    let s = c.index-opened-middle.result in
    let u : is_ascending (series_of ss) ≡ true =
    ap (λ ts. is_ascending (series_of ts)) c.as_slice-opened.ensures ∙ c.requires.ordered in
    record {
      ends = omega (arith, k, c.loop-low.invariant.ends);
      order = omega arith;
      below = c.loop-low.invariant.below;
      above = above_from (λ (w : OpenedSeries). w.series) c.args.series.now ss m s u l
          c.index-opened-middle.is (when_less c.args.series.now s.series
          (ap (series_cmp c.args.series.now) (sym c.as_series.ensures)
          ∙ (sym c.cmp.ensures ∙ c.in-Less.is)));
    }

pub loop-low-preserved : goal.loop-low-preserved
loop-low-preserved c =
    let ss = c.as_slice-opened.result.now in
    let m = c.loop-low.low + (c.loop-low.high - c.loop-low.low) / 2 in
    let k : m < c.loop-low.high = middle_lt c.loop-low.low c.loop-low.high c.loop-low-test.true in
    let l : m < length ss = omega (arith, k, c.loop-low.invariant.ends) in
    let s = c.index-opened-middle.result in
    let u : is_ascending (series_of ss) ≡ true =
    ap (λ ts. is_ascending (series_of ts)) c.as_slice-opened.ensures ∙ c.requires.ordered in
    record {
      ends = c.loop-low.invariant.ends;
      order = omega (arith, k);
      below = below_to (λ (w : OpenedSeries). w.series) c.args.series.now ss m s u l
          c.index-opened-middle.is (when_greater c.args.series.now s.series
          (ap (series_cmp c.args.series.now) (sym c.as_series.ensures)
          ∙ (sym c.cmp.ensures ∙ c.in-Greater.is)));
      above = c.loop-low.invariant.above;
    }

pub returns : goal.returns
returns c f =
    let ss = c.as_slice-opened.result.now in
    let n : c.loop-low.high ≡ c.loop-low.low =
    omega (arith, c.loop-low-test.false, c.loop-low.invariant.order) in
    ap (past f c.args.series.now) (sym c.as_slice-opened.ensures)
    ∙ none_past f c.args.series.now ss c.loop-low.low c.loop-low.invariant.below
    (subst (λ j. list_all (λ s. series_before c.args.series.now s.series) (drop j ss) ≡ true) n
    c.loop-low.invariant.above)
