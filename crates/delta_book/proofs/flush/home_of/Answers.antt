use Rattle.std.proofs.Common.{◌∙◌, ap, sym, Some}
use Rattle.delta_book.proofs.Homes.{home_none, home_some, home_point_is}
use Rattle.delta_book.proofs.flush.home_of.Goals as goal

pub returns-in_default : goal.returns-in_default
returns-in_default c = λ qs h. sym (home_none c.args.cell.now qs h (sym c.in_default.ensures))

pub new-requires : goal.new-requires
new-requires c =
    home_point_is c.args.cell.now c.requires.0 c.in-Some.span c.in_ok-row.row c.in_ok-series.series
    c.requires.1.0 c.requires.1.1 (sym c.in-Some.ensures)
    (c.in_ok-row.ensures ∙ c.stored.ensures) (c.in_ok-series.ensures ∙ c.shared_id.ensures)

pub returns : goal.returns
returns c = λ qs h.
    ap Some c.new.ensures ∙ sym (home_some c.args.cell.now qs c.in-Some.span c.in_ok-row.row
    c.in_ok-series.series h (sym c.in-Some.ensures) (c.in_ok-row.ensures ∙ c.stored.ensures)
    (c.in_ok-series.ensures ∙ c.shared_id.ensures))
