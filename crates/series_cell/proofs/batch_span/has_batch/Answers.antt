use Rattle.std.proofs.Common.{rules, tests, ◌∙◌, ap, sym, reverse}
use Rattle.std.specs.Slice.Iter.{iter_rest}
use Rattle.std.proofs.lemmas.Iterator.Adapters.{YieldsList-from_rev_slice}
use Rattle.std.proofs.lemmas.Iterator.Search.{any_from_yields_List}
use Rattle.std.proofs.lemmas.List.Sorted.{IsPermutation-reverse, list_any-IsPermutation}
use Rattle.series_cell.specs.Spans.{is_span_of}
use Rattle.series_cell.proofs.batch_span.has_batch.Goals as goal

pub returns : goal.returns
returns c =
    any_from_yields_List (is_span_of c.args.batch) _ _ _ c.any.ensures.ran
    (YieldsList-from_rev_slice c.args.spans.now
    (ap iter_rest c.rev.ensures.source ∙ c.iter.ensures.rest))
    (λ x b q k. search (rules, tests))
    ∙ sym (list_any-IsPermutation (is_span_of c.args.batch) c.args.spans.now
    (reverse c.args.spans.now) (IsPermutation-reverse c.args.spans.now))
