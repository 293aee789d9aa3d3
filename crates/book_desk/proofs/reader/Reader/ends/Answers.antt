use Rattle.std.proofs.Common.{◌∙◌, List, Option, ap, None}
use Rattle.std.specs.Prelude.{fold}
use Rattle.book_desk.specs.declared.part.Part.{Part}
use Rattle.book_desk.specs.inner.EndRanges.{with_part}
use Rattle.book_desk.proofs.EndRanges.{range_some, range_none}
use Rattle.book_desk.proofs.reader.Reader.ends.Goals as goal

pub returns-clause-range : goal.returns-clause-range
returns-clause-range c = range_some c.end_range.result c.args.self.now
    (c.end_range.ensures ∙ ap (λ (ps : List (Option Part)). fold with_part None ps)
    (c.deref.ensures.value ∙ c.self.view_is))

pub returns-clause-none : goal.returns-clause-none
returns-clause-none c = range_none c.end_range.result c.args.self.now
    (c.end_range.ensures ∙ ap (λ (ps : List (Option Part)). fold with_part None ps)
    (c.deref.ensures.value ∙ c.self.view_is))
