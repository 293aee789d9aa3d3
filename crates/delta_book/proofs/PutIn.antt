-- A point goes into the cell of its series.
use Rattle.std.proofs.Common.{◌≡◌, ℕ, ◌<◌, ◌≤◌, Bool, true, false, cond, not, List, [], ◌∷◌, ◌++◌}
use Rattle.std.proofs.Common.{map, take, set, get_or, length, refl, ap, sym, ◌∙◌, subst, arith, inl}
use Rattle.std.proofs.Common.{inr, Some, None}
use Rattle.std.specs.declared.result.Result.{Result}
use Rattle.std.specs.declared.result.Result.TheVariants.{Ok, Err}
use Rattle.std.specs.Prelude.{OnOk, OnErr, IfErr, IfSome, nat_lt}
use Rattle.std.specs.declared.option.Option.{Option}
use Rattle.std.specs.List.{list_all, insert}
use Rattle.std.proofs.lemmas.Bool.{and_from, ltb-false, or_cases, or_left, or_right, not-false}
use Rattle.std.proofs.lemmas.Bool.{cases_lt}
use Rattle.std.proofs.lemmas.List.{append-nil, take_all}
use Rattle.std.proofs.lemmas.List.Elements.{filter-append}
use Rattle.series_id.specs.Identity.{Identity, row_length}
use Rattle.series_id.specs.Order.{same_series}
use Rattle.series_id.proofs.Order.{same_series-exact}
use Rattle.series_id.proofs.Refusals.{passed}
use Rattle.metric_events.specs.DataPoint.{DataPoint}
use Rattle.metric_events.specs.Points.{admitted, is_among}
use Rattle.metric_events.specs.Rows.{add_rows, fits, zeros}
use Rattle.metric_events.specs.Senders.{same_sender}
use Rattle.metric_events.specs.Series.{is_of, of_series, frontier, is_ascending, row_sum, sum_of}
use Rattle.metric_events.specs.declared.accepted.Accepted.{Accepted}
use Rattle.metric_events.proofs.Identities.{same_of}
use Rattle.metric_events.proofs.InOrder.{ascending_distinct}
use Rattle.metric_events.proofs.Lists.{all_append, all_weaker, any_append_left, any_append_right}
use Rattle.metric_events.proofs.Lists.{any_none, filter_none}
use Rattle.metric_events.proofs.Senders.{same_sender-exact}
use Rattle.series_cell.specs.Cells.{CellView, Stands, IsOfSame, end_of}
use Rattle.series_cell.proofs.Sizes.{sized}
use Rattle.series_cell.proofs.Standing.{end_is}
use Rattle.delta_book.specs.Tables.{AreCells, id_of}
use Rattle.delta_book.specs.inner.Parts.{part_of, parts_of}
use Rattle.delta_book.specs.inner.Tables.{AreSome, HasPending, IsTable, IdAt, Puts, Removes}
use Rattle.delta_book.specs.inner.Puts.{AddsPoint, IsGap, RejectsAt, RejectsPart, fault_at}
use Rattle.delta_book.specs.inner.Puts.{fits_with, next_fault}
use Rattle.delta_book.specs.declared.faults.AdmitFault.TheVariants.{OtherWriter, OutOfOrder}
use Rattle.delta_book.specs.declared.put.Rejection.{Rejection}
use Rattle.delta_book.specs.declared.put.Rejection.TheVariants.{Fault, TooLarge, NoMemory}
use Rattle.delta_book.specs.declared.cells.Fill.{Fill}
use Rattle.delta_book.specs.declared.cells.Fill.TheVariants.{Point, SpanOnly}
use Rattle.delta_book.proofs.Asked.{CellOf, none_of}
use Rattle.delta_book.proofs.CellTotals.{has_points}
use Rattle.delta_book.proofs.NewCell.{gap_absent, ascends_inserted, stand_inserted, among_inserted}
use Rattle.delta_book.proofs.Removing.{table_of}
use Rattle.delta_book.proofs.Sweeping.{cells_of_table}
use Rattle.delta_book.proofs.Tables.{stands_at, at_id, among_at, set_ids, set_stand, others_stand}

-- what the cell says against the point

pub fault_is : (c : CellView) (qs : List Accepted) (s : List ℕ) (n : ℕ) (p : DataPoint)
    → CellOf c qs p.series → fault_at c s n p ≡ next_fault qs s n p
fault_is c qs s n p k =
    ap (λ m. cond (not (same_sender c.owner s)) (Some (OtherWriter n))
    (cond (nat_lt p.span.start m) (Some (OutOfOrder n m)) None)) k.end
    ∙ ap (λ v. cond v (Some (OtherWriter n))
    (cond (nat_lt p.span.start (frontier p.series qs))
    (Some (OutOfOrder n (frontier p.series qs))) None)) (sym (k.writer s))

-- it says nothing
pub record Clear (c : CellView) (s : List ℕ) (p : DataPoint) : Type 0 where
  pub owner : c.owner ≡ s
  pub order : end_of c ≤ p.span.start

pub clear : (c d : CellView) (s : List ℕ) (n : ℕ) (p : DataPoint) → c ≡ d → None ≡ fault_at c s n p
    → Clear d s p
clear c d s n p e h =
    let k = passed (not (same_sender d.owner s)) (OtherWriter n)
    _ (ap (λ (w : CellView). fault_at w s n p) (sym e) ∙ sym h) in
    let m = passed (nat_lt p.span.start (end_of d)) (OutOfOrder n (end_of d)) None k.1 in
    record {
      owner = same_sender-exact d.owner s (not-false (same_sender d.owner s) k.0);
      order = ltb-false p.span.start (end_of d) m.0;
    }

-- the rows of a cell are as long as its series wants them
pub row_long : (cs : List CellView) (i : ℕ) (c : CellView) → i < length cs → c ≡ get_or cs i c
    → AreSome cs → length c.accepted ≡ row_length c.id.kind
row_long cs i c l e h = (sized c _ (stands_at cs h.0 i c l e h.1.stand)).accepted

-- the sum of the series with the point, as its cell has it
pub fits_at : (c : CellView) (qs : List Accepted) (p : DataPoint) → c.accepted ≡ sum_of p.series qs
    → fits p.series.kind (add_rows c.accepted p.row) ≡ fits_with qs p
fits_at c qs p e = ap (λ r. fits p.series.kind (add_rows r p.row)) e

-- what refuses a part in its cell refuses it after the cells' points
pub rejects_at : (e : Rejection) (fill : Fill) (v : Bool) (qs : List Accepted) (s : List ℕ) (n : ℕ)
    (p : DataPoint) → v ≡ fits_with qs p → RejectsPart e fill v → RejectsAt e fill qs s n p
rejects_at (Fault f) fill v qs s n p k h = absurd h
rejects_at TooLarge fill v qs s n p k h = (h.0, sym k ∙ h.1)
rejects_at NoMemory fill v qs s n p k h = tt

-- a cell without a point

pub empty_end : (c : CellView) (n : ℕ) → Stands c [] → end_of c ≤ n
empty_end c n h = omega (arith, end_is c [] h)

pub empty_sum : (c : CellView) (x : Identity) → c.id ≡ x → Stands c []
    → c.accepted ≡ zeros (row_length x.kind)
empty_sum c x e h = h.accepted ∙ ap (λ (y : Identity). row_sum (row_length y.kind) []) e

pub empty_long : (c : CellView) → Stands c [] → length c.accepted ≡ row_length c.id.kind
empty_long c h = (sized c [] h).accepted

pub alone_fits : (c : CellView) (p : DataPoint) (x : Identity) → x ≡ p.series → c.id ≡ x
    → Stands c [] → fits p.series.kind (add_rows c.accepted p.row)
    ≡ fits p.series.kind (add_rows (zeros (row_length p.series.kind)) p.row)
alone_fits c p x k e h =
    ap (λ r. fits p.series.kind (add_rows r p.row)) (empty_sum c p.series (e ∙ k) h)

pub stands_alone : (c d : CellView) (b : ℕ) (s : List ℕ) (p : DataPoint) → c.owner ≡ s → Stands c []
    → AddsPoint c d b p → Stands d (admitted b s p ∷ [])
stands_alone c d b s p o h k = subst (λ (w : List ℕ). Stands d (admitted b w p ∷ [])) o (k [] h)

-- afterwards

pub of_more : (y : Identity) (qs : List Accepted) (a : Accepted) → is_of y a ≡ false
    → of_series y (qs ++ a ∷ []) ≡ of_series y qs
of_more y qs a e = filter-append (is_of y) qs (a ∷ []) ∙ rw e (append-nil (of_series y qs))

pub of_own : (x : Identity) (qs : List Accepted) (a : Accepted) → is_of x a ≡ true
    → of_series x (qs ++ a ∷ []) ≡ of_series x qs ++ a ∷ []
of_own x qs a e = filter-append (is_of x) qs (a ∷ []) ∙ rw e refl

put_table : (cs : List CellView) (i : ℕ) (c d : CellView) (b : ℕ) (s : List ℕ) (qs : List Accepted)
    (p : DataPoint) → i < length cs → c ≡ get_or cs i c → IdAt cs i p.series → c.owner ≡ s
    → IsOfSame c d → AddsPoint c d b p → IsTable cs qs
    → IsTable (set cs i d) (qs ++ admitted b s p ∷ [])
put_table cs i c d b s qs p l e a o same k t =
    let x = p.series in
    let q : Accepted = admitted b s p in
    let ec : c.id ≡ x = at_id cs i c x a e in
    let ed : d.id ≡ x = same.id ∙ ec in
    let ids : map id_of (set cs i d) ≡ map id_of cs = set_ids cs i d x a ed in
    let st : Stands d (of_series x qs ++ admitted b c.owner p ∷ []) =
    k (of_series x qs)
    (subst (λ y. Stands c (of_series y qs)) ec (stands_at cs qs i c l e t.stand)) in
    record {
      ascending = ap is_ascending ids ∙ t.ascending;
      stand =
          set_stand cs qs (qs ++ q ∷ []) i d x (ascending_distinct (map id_of cs) t.ascending) a ed
          (subst (Stands d) (sym (of_own x qs q (same_of x x refl)))
          (subst (λ w. Stands d (of_series x qs ++ admitted b w p ∷ [])) o st))
          (λ y n. of_more y qs q n)
          t.stand;
      covered =
          subst (λ xs. list_all (λ a. is_among a.point.series xs) (qs ++ q ∷ []) ≡ true) (sym ids)
          (all_append (λ a. is_among a.point.series (map id_of cs)) qs (q ∷ []) t.covered
          (and_from (is_among x (map id_of cs)) true (among_at cs i x a) refl));
    }

pub put_one : (cs : List CellView) (i : ℕ) (c d : CellView) (b : ℕ) (s : List ℕ) (fill : Fill)
    (p : DataPoint) → i < length cs → c ≡ get_or cs i c → IdAt cs i p.series → c.owner ≡ s
    → IsOfSame c d → AddsPoint c d b (part_of fill p)
    → Puts cs (set cs i d) b s (part_of fill p ∷ [])
put_one cs i c d b s fill p l e a o same k qs h =
    let q : Accepted = admitted b s (part_of fill p) in
    let ids : map id_of (set cs i d) ≡ map id_of cs =
    set_ids cs i d p.series a (same.id ∙ at_id cs i c p.series a e) in
    cells_of_table (set cs i d) (qs ++ q ∷ [])
    (put_table cs i c d b s qs (part_of fill p) l e a o same k (table_of cs qs h))
    (λ x m. any_append_left (is_of x) qs (q ∷ [])
    (has_points cs qs h x (ap (is_among x) (sym ids) ∙ m)))

-- or into a new one
pub put_first : (cs : List CellView) (i : ℕ) (d : CellView) (b : ℕ) (s : List ℕ) (fill : Fill)
    (p : DataPoint) → (is_ascending (map id_of cs) ≡ true → IsGap cs i p.series) → d.id ≡ p.series
    → Stands d (admitted b s (part_of fill p) ∷ [])
    → Puts cs (insert cs i d) b s (part_of fill p ∷ [])
put_first cs i d b s fill p gap ed st qs h =
    let x = p.series in
    let q : Accepted = admitted b s (part_of fill p) in
    let t = table_of cs qs h in
    let none : is_among x (map id_of cs) ≡ false =
    gap_absent cs i x t.ascending (gap t.ascending) in
    let empty : of_series x qs ≡ [] =
    filter_none (is_of x) qs (any_none (is_of x) qs (none_of cs qs x h none)) in
    let own : of_series x (qs ++ q ∷ []) ≡ q ∷ [] =
    of_own x qs q (same_of x x refl) ∙ ap (λ rs. rs ++ q ∷ []) empty in
    cells_of_table (insert cs i d) (qs ++ q ∷ [])
    (record {
      ascending = ascends_inserted cs i d x t.ascending (gap t.ascending) ed;
      stand = stand_inserted cs i d (qs ++ q ∷ [])
          (subst (Stands d) (sym (ap (λ (y : Identity). of_series y (qs ++ q ∷ [])) ed ∙ own)) st)
          (others_stand cs qs (qs ++ q ∷ []) x none (λ y n. of_more y qs q n) t.stand);
      covered = all_append (λ (a : Accepted). is_among a.point.series (map id_of (insert cs i d)))
          qs (q ∷ [])
          (all_weaker (λ (a : Accepted). is_among a.point.series (map id_of cs))
          (λ (a : Accepted). is_among a.point.series (map id_of (insert cs i d)))
          (λ a m. among_inserted a.point.series cs i d
          ∙ or_left (is_among a.point.series (map id_of cs))
          (same_series a.point.series d.id) m) qs t.covered)
          (and_from (is_among x (map id_of (insert cs i d))) true
          (among_inserted x cs i d ∙ or_right (is_among x (map id_of cs)) (same_series x d.id)
          (same_of x d.id (sym ed))) refl);
    })
    (λ y m.
    elim (or_cases (is_among y (map id_of cs)) (same_series y d.id)
    (sym (among_inserted y cs i d) ∙ m)) [
      | inl e ↦ any_append_left (is_of y) qs (q ∷ []) (has_points cs qs h y e)
      | inr e ↦ any_append_right (is_of y) qs (q ∷ [])
          (or_left (is_of y q) false (same_of x y (sym (same_series-exact y d.id e ∙ ed))))
    ])

-- part of a batch is put and taken out again

with_none : (cs : List CellView) (b : ℕ) (s : List ℕ) (qs : List Accepted) (ps rs : List DataPoint)
    → rs ≡ ps → AreCells cs (qs ++ map (admitted b s) ps)
    → AreCells cs (qs ++ (map (admitted b s) rs ++ []))
with_none cs b s qs ps rs e h = subst
    (λ (ys : List DataPoint). AreCells cs (qs ++ (map (admitted b s) ys ++ []))) (sym e)
    (subst (λ ys. AreCells cs (qs ++ ys)) (sym (append-nil (map (admitted b s) ps))) h)

pub has_pending : (cs : List CellView) (b : ℕ) (s : List ℕ) (qs : List Accepted)
    (ps rs : List DataPoint) → rs ≡ ps → AreCells cs (qs ++ map (admitted b s) ps)
    → HasPending cs b rs
has_pending cs b s qs ps rs e h = (s, (qs, ([], with_none cs b s qs ps rs e h)))

pub cells_without : (cs ds : List CellView) (b : ℕ) (s : List ℕ) (qs : List Accepted)
    (ps rs : List DataPoint) → rs ≡ ps → Removes cs ds b rs
    → AreCells cs (qs ++ map (admitted b s) ps) → AreCells ds qs
cells_without cs ds b s qs ps rs e k h =
    subst (AreCells ds) (append-nil qs) (k s qs [] (with_none cs b s qs ps rs e h))

-- all of a batch is put
pub all_put : (cs : List CellView) (qs : List Accepted) (b : ℕ) (s : List ℕ) (fill : Fill)
    (ps : List DataPoint) (n : ℕ) → length ps ≤ n
    → AreCells cs (qs ++ map (admitted b s) (parts_of fill (take n ps)))
    → AreCells cs (qs ++ map (admitted b s) (parts_of fill ps))
all_put cs qs b s fill ps n l h = subst
    (λ (xs : List DataPoint). AreCells cs (qs ++ map (admitted b s) (parts_of fill xs)))
    (take_all n ps l) h

-- of the spans all are
pub all_spans : (n m : ℕ) (P : Type 0) → (n < m → (SpanOnly ≡ Point) × P) → m ≤ n
all_spans n m P f =
    elim (cases_lt n m) [ inl l ↦ absurd (let q : SpanOnly ≡ Point = (f l).0 in cc) | inr le ↦ le ]

-- clauses of an answer

pub then_ok : {T E : Type 0} (r : Result T E) (P Q : Type 0) → (P → Q) → OnOk r P → OnOk r Q
then_ok (Ok x) P Q f h = f h
then_ok (Err e) P Q f h = tt

pub then_rejection : {T E : Type 0} (r : Result T E) (P Q : E → Type 0) → ((e : E) → P e → Q e)
    → IfErr r P → IfErr r Q
then_rejection (Ok x) P Q f h = tt
then_rejection (Err e) P Q f h = f e h

pub any_ok : {T E : Type 0} (r : Result T E) (P : Type 0) → P → OnOk r P
any_ok (Ok x) P h = h
any_ok (Err e) P h = tt

pub any_err : {T E : Type 0} (r : Result T E) (P : Type 0) → P → OnErr r P
any_err (Ok x) P h = tt
any_err (Err e) P h = h

pub then_some : {T : Type 0} (o : Option T) (P Q : T → Type 0) → ((e : T) → P e → Q e) → IfSome o P
    → IfSome o Q
then_some None P Q f h = tt
then_some (Some e) P Q f h = f e h
