use Rattle.std.proofs.Common.{◌≡◌, ap, ◌∙◌, arith, refl, []}
use Rattle.series_id.specs.Identity.{Identity, row_length}
use Rattle.series_cell.specs.inner.Rows.{FiveRows, zero_rows}
use Rattle.series_cell.proofs.Standing.{stands_none}
use Rattle.series_cell.proofs.Words.{words_none}
use Rattle.series_cell.proofs.cell.Cell.of_shared.Goals as goal

are_zero : (c : goal.In_ok-new) → c.in_ok-rows.rows ≡ zero_rows (row_length c.args.id.kind)
are_zero c = c.in_ok-rows.ensures ∙ ap zero_rows
    (c.row_len.ensures ∙ ap (λ (x : Identity). row_length x.kind) c.as_series.ensures)

pub invariant_of-result : goal.invariant_of-result
invariant_of-result c =
    let rows = are_zero c in
    record {
      cell = (
        [],
        rw c.in_ok-new.ensures.ok
            (stands_none _ (ap (λ (r : FiveRows). r.accepted) rows)
            (ap (λ (r : FiveRows). r.stored) rows) (ap (λ (r : FiveRows). r.in_flight) rows)
            (ap (λ (r : FiveRows). r.acknowledged) rows) (ap (λ (r : FiveRows). r.dropped) rows)
            c.new-2.ensures.items refl refl),
      );
      words = rw c.in_ok-new.ensures.ok
          (words_none _ _ (ap (λ (r : FiveRows). r.accepted) rows));
      lean = rw c.in_ok-new.ensures.ok (λ _. omega (arith, c.new-2.ensures.capacity));
    }

pub returns-clause-none : goal.returns-clause-none
returns-clause-none c =
    let rows = are_zero c in
    rw c.in_ok-new.ensures.ok
    (stands_none _ (ap (λ (r : FiveRows). r.accepted) rows)
    (ap (λ (r : FiveRows). r.stored) rows) (ap (λ (r : FiveRows). r.in_flight) rows)
    (ap (λ (r : FiveRows). r.acknowledged) rows) (ap (λ (r : FiveRows). r.dropped) rows)
    c.new-2.ensures.items refl refl)
