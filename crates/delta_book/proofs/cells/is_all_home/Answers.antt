use Rattle.std.proofs.Common.{◌≡◌, ◌∙◌, true, false, ap, sym, ◌&&◌, drop, ◌+◌}
use Rattle.std.specs.List.{list_all}
use Rattle.std.proofs.lemmas.List.{drop_all}
use Rattle.delta_book.proofs.CountedSeries.{rest_at}
use Rattle.delta_book.proofs.Entered.{is_home_at, home_by_series, found_home}
use Rattle.delta_book.proofs.cells.is_all_home.Goals as goal

pub loop-p-init : goal.loop-p-init
loop-p-init c = λ qs h e. home_by_series qs c.args.number c.args.batch.now e

pub returns-then-not-is_home_in : goal.returns-then-not-is_home_in
returns-then-not-is_home_in c = λ qs h e.
    let p = c.p-item.result in
    let off : is_home_at qs c.args.number p ≡ false =
    found_home qs c.args.number c.args.batch.now c.loop-p.p-index p c.shared_series.result.now
    c.is_home_in.result false c.loop-p-test.true c.p-item.is e c.shared_series.ensures
    (c.is_home_in.ensures qs h) c.if-not-is_home_in.true in
    sym (ap (λ v. v && list_all (is_home_at qs c.args.number)
    (drop (c.loop-p.p-index + 1) c.args.batch.now)) off)
    ∙ (sym (ap (list_all (is_home_at qs c.args.number))
    (rest_at c.args.batch.now c.loop-p.p-index p c.loop-p-test.true c.p-item.is))
    ∙ c.loop-p.invariant qs h e)

pub loop-p-preserved : goal.loop-p-preserved
loop-p-preserved c = λ qs h e.
    let p = c.p-item.result in
    let on : is_home_at qs c.args.number p ≡ true =
    found_home qs c.args.number c.args.batch.now c.loop-p.p-index p c.shared_series.result.now
    c.is_home_in.result true c.loop-p-test.true c.p-item.is e c.shared_series.ensures
    (c.is_home_in.ensures qs h) c.if-not-is_home_in.false in
    sym (ap (λ v. v && list_all (is_home_at qs c.args.number)
    (drop (c.loop-p.p-index + 1) c.args.batch.now)) on)
    ∙ (sym (ap (list_all (is_home_at qs c.args.number))
    (rest_at c.args.batch.now c.loop-p.p-index p c.loop-p-test.true c.p-item.is))
    ∙ c.loop-p.invariant qs h e)

pub returns : goal.returns
returns c = λ qs h e. sym (ap (list_all (is_home_at qs c.args.number))
    (drop_all c.loop-p.p-index c.args.batch.now c.loop-p-test.false)) ∙ c.loop-p.invariant qs h e
