use Rattle.std.proofs.Common.{◌≡◌, true, false, sym, ◌∙◌, ◌++◌, map, refl, subst, ◌≤◌}
use Rattle.std.specs.Prelude.{nat_lt}
use Rattle.std.proofs.lemmas.Bool.{le-ltb}
use Rattle.metric_events.specs.Points.{admitted}
use Rattle.metric_events.specs.Series.{series_count}
use Rattle.metric_events.specs.Legal.{is_too_large}
use Rattle.metric_events.specs.declared.limits.TheConstants.{MAX_SERIES}
use Rattle.delta_book.proofs.limits.limit_without_alloc.Goals as goal

pub returns-then-is_large : goal.returns-then-is_large
returns-then-is_large c = λ b s rs k h.
    let qs = rs ++ map (admitted b s) c.args.batch.now in
    let few : nat_lt MAX_SERIES (series_count qs) ≡ false =
    le-ltb MAX_SERIES (series_count qs)
    (subst (λ n. n ≤ MAX_SERIES) (c.count_series.ensures b s rs h)
    c.if-count_series-gt-MAX_SERIES.false) in
    let large : is_too_large qs c.args.batch.now ≡ true =
    sym (c.is_large.ensures b s rs k h) ∙ c.if-is_large.true in
    rw (few, large) refl

pub returns : goal.returns
returns c = λ b s rs k h.
    let qs = rs ++ map (admitted b s) c.args.batch.now in
    let few : nat_lt MAX_SERIES (series_count qs) ≡ false =
    le-ltb MAX_SERIES (series_count qs)
    (subst (λ n. n ≤ MAX_SERIES) (c.count_series.ensures b s rs h)
    c.if-count_series-gt-MAX_SERIES.false) in
    let large : is_too_large qs c.args.batch.now ≡ false =
    sym (c.is_large.ensures b s rs k h) ∙ c.if-is_large.false in
    rw (few, large) refl
