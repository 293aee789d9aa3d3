use Rattle.std.proofs.Common.{◌∙◌, ◌-◌, ◌&&◌, Bool, List, ℕ, take, drop, length, sum, sym, ap}
use Rattle.std.specs.Prelude.{nat_le}
use Rattle.metric_events.specs.Rows.{add_rows, are_within}
use Rattle.metric_events.specs.declared.limits.TheConstants.{MAX_BUCKET, MAX_COUNT}
use Rattle.delta_book.proofs.Within.{rest_is, histogram_split}
use Rattle.delta_book.proofs.limits.is_histogram_within.Goals as goal

abbrev buckets : List ℕ → List ℕ → Bool
buckets xs ys =
    are_within (λ k. MAX_BUCKET) (add_rows xs ys) && nat_le (sum (add_rows xs ys)) MAX_COUNT

pub returns-then-is_head_within : goal.returns-then-is_head_within
returns-then-is_head_within c = λ bounds.
    let row = c.args.row.now in
    let more = c.args.more.now in
    c.are_buckets_within.ensures
    ∙ (ap (λ xs. buckets xs (take (length more - 3) (drop 3 more))) (rest_is 3 row)
    ∙ (ap (λ ys. buckets (drop 3 row) ys) (rest_is 3 more)
    ∙ (ap (λ v. v && buckets (drop 3 row) (drop 3 more))
    (sym c.if-is_head_within.true ∙ c.is_head_within.ensures bounds)
    ∙ histogram_split bounds row more c.requires.row c.requires.same)))

pub returns-else-is_head_within : goal.returns-else-is_head_within
returns-else-is_head_within c = λ bounds.
    let row = c.args.row.now in
    let more = c.args.more.now in
    c.if-is_head_within.false
    ∙ (ap (λ v. v && buckets (drop 3 row) (drop 3 more))
    (sym c.if-is_head_within.false ∙ c.is_head_within.ensures bounds)
    ∙ histogram_split bounds row more c.requires.row c.requires.same)
