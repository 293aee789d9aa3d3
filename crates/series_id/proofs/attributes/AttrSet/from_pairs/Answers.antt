use Rattle.std.proofs.Common.{rules, sym, ap, ◌∙◌, subst}
use Rattle.std.specs.List.{AllByRecursion}
use Rattle.series_id.specs.inner.Values.{IsNarrow}
use Rattle.series_id.specs.Pairs.{attr_refusal}
use Rattle.series_id.proofs.Sorted.{unrefused_is_set}
use Rattle.series_id.proofs.attributes.AttrSet.from_pairs.Goals as goal

pub share_pairs-requires : goal.share_pairs-requires
share_pairs-requires c =
    rw c.in_ok-sorted.ensures
    (unrefused_is_set _ (ap attr_refusal (sym c.as_slice.ensures.value)
    ∙ sym c.attr_fault.ensures.first ∙ c.in_default.is)
    (subst (AllByRecursion (λ p. IsNarrow p.1)) c.as_slice.ensures.value (search rules)))
