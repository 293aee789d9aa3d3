-- What the cells say of a series that a point of a batch is of.
use Rattle.std.proofs.Common.{◌≡◌, ℕ, ◌<◌, Bool, true, false, not, List, [], ◌∷◌, map, get_or}
use Rattle.std.proofs.Common.{length, refl, ap, sym, ◌∙◌, subst, inl, inr, ◌⊎◌, cond, Some, None}
use Rattle.std.proofs.Common.{arith}
use Rattle.std.specs.List.{list_any}
use Rattle.std.specs.Prelude.{nat_lt}
use Rattle.std.proofs.lemmas.Bool.{or_parts, cases_Bool, le-ltb}
use Rattle.std.proofs.Math.Bool.{or-false, or_self}
use Rattle.series_id.specs.Identity.{Identity, row_length}
use Rattle.metric_events.specs.Points.{is_among}
use Rattle.metric_events.specs.Rows.{zeros, add_rows, fits}
use Rattle.metric_events.specs.Series.{is_of, of_series, frontier, is_ascending, row_sum, sum_of}
use Rattle.metric_events.specs.Senders.{same_sender}
use Rattle.metric_events.specs.declared.accepted.Accepted.{Accepted}
use Rattle.metric_events.proofs.Bare.{none_frontier}
use Rattle.metric_events.proofs.Lists.{any_none, filter_none}
use Rattle.metric_events.proofs.SeriesOnce.{among_in_order}
use Rattle.series_cell.specs.Cells.{CellView, AllOwn, end_of}
use Rattle.series_cell.proofs.Reading.{frontier_is}
use Rattle.delta_book.specs.Tables.{AreCells, id_of}
use Rattle.metric_events.specs.DataPoint.{DataPoint}
use Rattle.delta_book.specs.inner.Tables.{IdAt}
use Rattle.delta_book.specs.Refusals.{has_other_writer}
use Rattle.delta_book.proofs.Tables.{stands_at, at_id}
use Rattle.delta_book.specs.declared.faults.AdmitFault.TheVariants.{OtherWriter, OutOfOrder}
use Rattle.delta_book.specs.inner.Puts.{IsGap, fits_alone, fits_with, next_fault}
use Rattle.delta_book.proofs.NewCell.{gap_absent}
use Rattle.delta_book.proofs.Removing.{table_of}
use Rattle.delta_book.proofs.CellTotals.{point_at, frontier_of}

-- no cell is of the series
pub none_of : (cs : List CellView) (qs : List Accepted) (x : Identity) → AreCells cs qs
    → is_among x (map id_of cs) ≡ false → list_any (is_of x) qs ≡ false
none_of cs qs x h n = sym (among_in_order x qs) ∙ (sym (ap (is_among x) h.ids) ∙ n)

no_writer : (x : Identity) (s : List ℕ) (qs : List Accepted) → list_any (is_of x) qs ≡ false
    → has_other_writer qs x s ≡ false
no_writer x s [] h = refl
no_writer x s (a ∷ qs) h = let p = or_parts (is_of x a) (list_any (is_of x) qs) h in
    rw p.0 (no_writer x s qs p.1)

writer_of : (o : List ℕ) (x : Identity) (s : List ℕ) (qs : List Accepted)
    → AllOwn o x (of_series x qs) → list_any (is_of x) qs ≡ true
    → has_other_writer qs x s ≡ not (same_sender o s)
writer_of o x s [] h m = absurd (let q : false ≡ true = m in cc)
writer_of o x s (a ∷ qs) h m =
    both (is_of x a) refl (writer_of o x s qs) (cases_Bool (list_any (is_of x) qs))
  where
    both : (v : Bool) → is_of x a ≡ v
        → (AllOwn o x (of_series x qs) → list_any (is_of x) qs ≡ true
        → has_other_writer qs x s ≡ not (same_sender o s))
        → (list_any (is_of x) qs ≡ true) ⊎ (list_any (is_of x) qs ≡ false)
        → has_other_writer (a ∷ qs) x s ≡ not (same_sender o s)
    both true e r d =
        let k : AllOwn o x (a ∷ of_series x qs) = rw e at h in
        let own : not (same_sender a.sender s) ≡ not (same_sender o s) =
        ap (λ t. not (same_sender t s)) k.0.sender in
        rw (e, own) (elim d [
          | inl y ↦ rw (r k.1 y) (or_self (not (same_sender o s)))
          | inr n ↦ rw (no_writer x s qs n) (or-false (not (same_sender o s)))
        ])
    both false e r d =
        let k : AllOwn o x (of_series x qs) = rw e at h in
        let n : list_any (is_of x) qs ≡ true = rw e at m in
        rw e (r k n)

pub writer_none : (cs : List CellView) (qs : List Accepted) (x : Identity) (s : List ℕ)
    → AreCells cs qs → is_among x (map id_of cs) ≡ false → has_other_writer qs x s ≡ false
writer_none cs qs x s h n = no_writer x s qs (none_of cs qs x h n)

pub end_none : (cs : List CellView) (qs : List Accepted) (x : Identity) → AreCells cs qs
    → is_among x (map id_of cs) ≡ false → frontier x qs ≡ 0
end_none cs qs x h n = none_frontier x qs (none_of cs qs x h n)

pub sum_none : (cs : List CellView) (qs : List Accepted) (x : Identity) → AreCells cs qs
    → is_among x (map id_of cs) ≡ false → sum_of x qs ≡ zeros (row_length x.kind)
sum_none cs qs x h n = ap (row_sum (row_length x.kind))
    (filter_none (is_of x) qs (any_none (is_of x) qs (none_of cs qs x h n)))

-- the cell of the series
pub record CellOf (c : CellView) (qs : List Accepted) (x : Identity) : Type 0 where
  pub writer : (s : List ℕ) → has_other_writer qs x s ≡ not (same_sender c.owner s)
  pub end : end_of c ≡ frontier x qs
  pub sum : c.accepted ≡ sum_of x qs

pub cell_of : (cs : List CellView) (qs : List Accepted) (i : ℕ) (c : CellView) (x : Identity)
    → AreCells cs qs → i < length cs → c ≡ get_or cs i c → IdAt cs i x → CellOf c qs x
cell_of cs qs i c x h l e a =
    let st = stands_at cs qs i c l e h.stand in
    let has = point_at cs qs i c l e h in
    subst (CellOf c qs) (at_id cs i c x a e) (record {
      writer = λ s. writer_of c.owner c.id s qs st.own has;
      end = frontier_is c (of_series c.id qs) st ∙ frontier_of c.id qs;
      sum = st.accepted;
    })

-- a series without a cell has no point that could refuse another
pub nothing_against : (cs : List CellView) (qs : List Accepted) (s : List ℕ) (n : ℕ) (p : DataPoint)
    → AreCells cs qs → is_among p.series (map id_of cs) ≡ false → next_fault qs s n p ≡ None
nothing_against cs qs s n p h m =
    ap (λ k. cond (has_other_writer qs p.series s) (Some (OtherWriter n))
    (cond (nat_lt p.span.start k) (Some (OutOfOrder n k)) None)) (end_none cs qs p.series h m)
    ∙ (ap (λ v. cond v (Some (OtherWriter n))
    (cond (nat_lt p.span.start 0) (Some (OutOfOrder n 0)) None))
    (writer_none cs qs p.series s h m)
    ∙ ap (λ v. cond v (Some (OutOfOrder n 0)) None) (le-ltb p.span.start 0 (omega arith)))

pub fits_new : (cs : List CellView) (qs : List Accepted) (p : DataPoint) → AreCells cs qs
    → is_among p.series (map id_of cs) ≡ false → fits_alone p ≡ fits_with qs p
fits_new cs qs p h m =
    sym (ap (λ r. fits p.series.kind (add_rows r p.row)) (sum_none cs qs p.series h m))

-- nor has one that belongs between the cells
pub absent_at : (cs : List CellView) (qs : List Accepted) (i : ℕ) (x : Identity) → AreCells cs qs
    → (is_ascending (map id_of cs) ≡ true → IsGap cs i x) → is_among x (map id_of cs) ≡ false
absent_at cs qs i x h gap = let u = (table_of cs qs h).ascending in gap_absent cs i x u (gap u)
