use Rattle.std.proofs.Common.{◌∙◌, ap, sym, ◌||◌}
use Rattle.std.proofs.lemmas.Bool.{or_left}
use Rattle.std.specs.List.{list_any}
use Rattle.delta_book.specs.inner.Batches.{is_point_of}
use Rattle.delta_book.proofs.Tables.{among_at}
use Rattle.delta_book.proofs.without_alloc.is_known.Goals as goal

pub returns-in-Some : goal.returns-in-Some
returns-in-Some c = λ u. sym (or_left _ (list_any (is_point_of c.args.series.now) c.args.before.now)
    (among_at c.args.cells.now c.in-Some.field-0 c.args.series.now c.in-Some.ensures.1))

pub returns-in-None : goal.returns-in-None
returns-in-None c = λ u. c.is_listed_in.ensures
    ∙ sym (ap (λ v. v || list_any (is_point_of c.args.series.now) c.args.before.now)
    (c.in-None.ensures u))
