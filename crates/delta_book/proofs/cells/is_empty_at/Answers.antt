use Rattle.std.proofs.Common.{◌≡◌, ◌∙◌, nat_eq, subst, sym, refl, true, false}
use Rattle.delta_book.proofs.Sweeping.{found, missed, has_end, still_for, stays_for}
use Rattle.delta_book.proofs.cells.is_empty_at.Goals as goal

pub returns-in-Some : goal.returns-in-Some
returns-in-Some c = λ qs ps n h.
    let cs = c.args.cells.now in
    let f = found cs cs c.in-Some.i c.shared_series.result.now c.args.point.now.series refl
    c.shared_series.ensures c.in-Some.ensures in
    stays_for cs c.in-Some.i c.index-cells-i.result qs ps c.args.point.now f.0 c.index-cells-i.is
    f.1
    (has_end c.index-cells-i.result c.frontier.result c.frontier.ensures
    (λ z. let q : true ≡ false = subst (λ r. nat_eq r 0 ≡ false) z n in cc)) h

pub returns-in-None : goal.returns-in-None
returns-in-None c = λ qs ps n h.
    let cs = c.args.cells.now in
    still_for cs qs ps c.args.point.now (λ m. absurd (let q : true ≡ false =
    sym m ∙ missed cs cs c.shared_series.result.now c.args.point.now.series refl
    c.shared_series.ensures c.in-None.ensures h.table.ascending in cc)) h
