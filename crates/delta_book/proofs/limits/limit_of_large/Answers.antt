use Rattle.std.proofs.Common.{◌∙◌, sym, refl}
use Rattle.delta_book.proofs.limits.limit_of_large.Goals as goal

pub returns-then-exceeds_max_series : goal.returns-then-exceeds_max_series
returns-then-exceeds_max_series c =
    λ qs h. rw (sym (c.exceeds_max_series.ensures qs h) ∙ c.if-exceeds_max_series.true) refl

pub returns-else-exceeds_max_series : goal.returns-else-exceeds_max_series
returns-else-exceeds_max_series c =
    λ qs h. rw (sym (c.exceeds_max_series.ensures qs h) ∙ c.if-exceeds_max_series.false) refl
