use Rattle.std.proofs.Common.{◌≡◌, ◌∙◌, ℕ, List, ap, sym, subst, true}
use Rattle.std.specs.Prelude.{nat_le}
use Rattle.std.specs.List.{list_all}
use Rattle.metric_events.specs.Rows.{add_rows}
use Rattle.delta_book.proofs.Handing.{past_small, nothing_past}
use Rattle.delta_book.proofs.opening.with_past.Goals as goal

pub add_past-requires-clause-small : goal.add_past-requires-clause-small
add_past-requires-clause-small c =
    let s = c.in-Some.past.now in
    subst (λ (ws : List ℕ). list_all (λ w. nat_le w 170141183460469231731687303715884105728) ws
    ≡ true) (sym c.as_slice.ensures)
    (past_small c.args.before.now.round s.series s.acknowledged c.requires.few
    c.in-Some.ensures.made.acknowledged)

pub add_past-requires-in-Some-clause-small : goal.add_past-requires-in-Some-clause-small
add_past-requires-in-Some-clause-small c =
    let s = c.in-Some.past.now in
    subst (λ (ws : List ℕ). list_all (λ w. nat_le w 170141183460469231731687303715884105728) ws
    ≡ true) (sym c.as_slice-in-Some.ensures)
    (past_small c.args.before.now.round s.series s.dropped c.requires.few
    c.in-Some.ensures.made.dropped)

pub returns-in_ok-dropped-in-None : goal.returns-in_ok-dropped-in-None
returns-in_ok-dropped-in-None c =
    let x = c.args.series.now in
    record {
      acknowledged = c.in_ok-acknowledged-in-None.ensures
          ∙ sym (ap (add_rows c.args.acknowledged.now) (c.in-None.ensures (λ o. o.acknowledged))
          ∙ nothing_past x c.args.acknowledged.now c.requires.acknowledged);
      dropped = c.in_ok-dropped-in-None.ensures
          ∙ sym (ap (add_rows c.args.dropped.now) (c.in-None.ensures (λ o. o.dropped))
          ∙ nothing_past x c.args.dropped.now c.requires.dropped);
    }
