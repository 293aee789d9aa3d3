use Rattle.std.proofs.Common.{◌≡◌, subst, sym, rules}
use Rattle.std.proofs.lemmas.Fn.{filter_same}
use Rattle.std.specs.List.{filter}
use Rattle.delta_book.specs.Tables.{AreCells}
use Rattle.delta_book.proofs.Sweeping.{is_some_cell, kept_full}
use Rattle.delta_book.proofs.cells.keep_full.Goals as goal

pub returns : goal.returns
returns c = λ qs ps h.
    let e : c.retain.new.self.items ≡ filter is_some_cell c.args.cells.now.items =
    filter_same _ is_some_cell _ (λ x b f' k. search rules) _ _ c.retain.ensures.filtered in
    subst (λ cs. AreCells cs qs) (sym e) (kept_full c.args.cells.now.items qs ps h)
