-- What a cell keeps is what the standing says of its series.
use Rattle.std.proofs.Common.{◌≡◌, ℕ, ◌+◌, ◌<◌, Bool, true, false, List, [], ◌∷◌, ◌++◌, map, filter}
use Rattle.std.proofs.Common.{take, get_or, length, max, refl, ap, sym, ◌∙◌, subst, arith, zero}
use Rattle.std.proofs.Common.{suc}
use Rattle.std.specs.Prelude.{if◌then◌else◌}
use Rattle.std.specs.List.{list_any}
use Rattle.std.specs.declared.option.Option.{Option}
use Rattle.std.proofs.lemmas.Bool.{or_left, or_right}
use Rattle.series_id.specs.Identity.{Identity, row_length}
use Rattle.series_id.specs.Order.{same_series}
use Rattle.series_id.proofs.Order.{same_series-refl}
use Rattle.metric_events.specs.Interval.{Interval}
use Rattle.metric_events.specs.Rows.{add_rows}
use Rattle.metric_events.specs.Points.{is_among, is_home, is_flying, is_acknowledged, is_dropped}
use Rattle.metric_events.specs.Series.{is_of, of_series, owner, frontier, row_sum, sum_of, hull}
use Rattle.metric_events.specs.Standing.{series_standing, all_series, stands, sum_where, nothing_of}
use Rattle.metric_events.specs.Legal.{is_held}
use Rattle.metric_events.specs.declared.accepted.Accepted.{Accepted}
use Rattle.metric_events.proofs.SeriesOnce.{among_in_order}
use Rattle.metric_events.proofs.Sums.{add_rows-zeros, add_rows-comm, row_sum_long}
use Rattle.series_cell.specs.Cells.{CellView, Stands, AllOwn, end_of, home_hull, flight_hull}
use Rattle.series_cell.proofs.Reading.{tells}
use Rattle.delta_book.specs.Tables.{AreCells, AllStand, id_of}
use Rattle.delta_book.specs.inner.Tables.{HasPoint}
use Rattle.std.proofs.lemmas.List.{map_more}
use Rattle.delta_book.specs.Totals.{totals_of}
use Rattle.delta_book.specs.declared.totals.SeriesTotals.{SeriesTotals}
use Rattle.delta_book.proofs.Totalling.{rows_are}
use Rattle.delta_book.specs.CellTotals.{CellTotals, cell_totals, standing_totals}

pub owner_is : (s : List ℕ) (x : Identity) (qs : List Accepted) → AllOwn s x (of_series x qs)
    → list_any (is_of x) qs ≡ true → owner x qs ≡ s
owner_is s x [] h m = absurd (let q : false ≡ true = m in cc)
owner_is s x (a ∷ qs) h m = both (is_of x a) refl (owner_is s x qs)
  where
    both : (v : Bool) → is_of x a ≡ v
        → (AllOwn s x (of_series x qs) → list_any (is_of x) qs ≡ true → owner x qs ≡ s)
        → owner x (a ∷ qs) ≡ s
    both true e r = let k : AllOwn s x (a ∷ of_series x qs) = rw e at h in rw e k.0.sender
    both false e r = let k : AllOwn s x (of_series x qs) = rw e at h in
        let n : list_any (is_of x) qs ≡ true = rw e at m in rw e (r k n)

-- the frontier of a series is that of its own points
pub frontier_of : (x : Identity) (qs : List Accepted) → frontier x (of_series x qs) ≡ frontier x qs
frontier_of x [] = refl
frontier_of x (a ∷ qs) = both (is_of x a) refl (frontier_of x qs)
  where
    both : (v : Bool) → is_of x a ≡ v → frontier x (of_series x qs) ≡ frontier x qs
        → frontier x (of_series x (a ∷ qs)) ≡ frontier x (a ∷ qs)
    both true e r = rw (e, e) (ap (λ n. max a.point.span.end n) r)
    both false e r = rw e r

same_totals : (x x' : Identity) (o o' : List ℕ) (f f' : ℕ) (a a' k k' d d' i i' s s' : List ℕ)
    (h h' g g' : Option Interval) → x ≡ x' → o ≡ o' → f ≡ f' → a ≡ a' → k ≡ k' → d ≡ d' → i ≡ i'
    → s ≡ s' → h ≡ h' → g ≡ g' → (let t : CellTotals =
    record {
      id = x;
      owner = o;
      frontier = f;
      accepted = a;
      acknowledged = k;
      dropped =
          d;
      in_flight = i;
      stored = s;
      stored_span = h;
      flight_span = g;
    } in
    let u : CellTotals = record {
      id = x';
      owner = o';
      frontier = f';
      accepted =
          a';
      acknowledged = k';
      dropped = d';
      in_flight = i';
      stored =
          s';
      stored_span = h';
      flight_span = g';
    } in t ≡ u)
same_totals x x' o o' f f' a a' k k' d d' i i' s s' h h' g g' ex eo ef ea ek ed ei es eh eg =
    rw (ex, eo, ef, ea, ek, ed, ei, es, eh, eg) refl

home_both : (x : Identity) (v : Bool) (rs : List Accepted)
    → row_sum (row_length x.kind) rs ≡ add_rows
    (if v then nothing_of x else row_sum (row_length x.kind) rs)
    (if v then row_sum (row_length x.kind) rs else nothing_of x)
home_both x true rs = sym (add_rows-zeros (row_length x.kind) (row_sum (row_length x.kind) rs)
    (row_sum_long (row_length x.kind) rs))
home_both x false rs = sym (add_rows-comm (row_sum (row_length x.kind) rs) (nothing_of x)
    ∙ add_rows-zeros (row_length x.kind) (row_sum (row_length x.kind) rs)
    (row_sum_long (row_length x.kind) rs))

pub totals_are : (c : CellView) (qs : List Accepted) (held : List (List ℕ))
    → Stands c (of_series c.id qs) → HasPoint c.id qs
    → cell_totals c ≡ standing_totals (series_standing qs held c.id)
totals_are c qs held h m =
    let r = tells c (of_series c.id qs) h in
    same_totals c.id c.id c.owner (owner c.id qs) (end_of c) (frontier c.id qs) c.accepted
    (sum_of c.id qs) c.acknowledged (sum_where is_acknowledged c.id qs) c.dropped
    (sum_where is_dropped c.id qs) c.in_flight (sum_where is_flying c.id qs) c.stored
    _ (home_hull c) (hull (filter (stands is_home) (of_series c.id qs))) (flight_hull c)
    (hull (filter (stands is_flying) (of_series c.id qs)))
    refl (sym (owner_is c.owner c.id qs h.own m)) (r.frontier ∙ frontier_of c.id qs) r.accepted
    r.acknowledged r.dropped r.in_flight
    (r.stored ∙ home_both c.id (is_held (owner c.id qs) held)
    (filter (stands is_home) (of_series c.id qs)))
    r.home_span r.flight_span

-- each series of the cells has a point

pub has_points : (cs : List CellView) (qs : List Accepted) → AreCells cs qs → (x : Identity)
    → is_among x (map id_of cs) ≡ true → HasPoint x qs
has_points cs qs h x m = sym (among_in_order x qs) ∙ (sym (ap (is_among x) h.ids) ∙ m)

totals_of_each : (cs : List CellView) (qs : List Accepted) (held : List (List ℕ)) → AllStand cs qs
    → ((x : Identity) → is_among x (map id_of cs) ≡ true → HasPoint x qs)
    → map cell_totals cs ≡ map standing_totals (map (series_standing qs held) (map id_of cs))
totals_of_each [] qs held h k = refl
totals_of_each (c ∷ cs) qs held h k =
    ap (λ t. t ∷ map cell_totals cs) (totals_are c qs held h.0
    (k c.id (or_left (same_series c.id c.id) (is_among c.id (map id_of cs))
    (same_series-refl c.id))))
    ∙ ap (λ ts. standing_totals (series_standing qs held c.id) ∷ ts)
    (totals_of_each cs qs held h.1
    (λ x m. k x (or_right (same_series x c.id) (is_among x (map id_of cs)) m)))

pub totals_of_all : (cs : List CellView) (qs : List Accepted) (held : List (List ℕ))
    → AreCells cs qs → map cell_totals cs ≡ map standing_totals (all_series qs held)
totals_of_all cs qs held h = totals_of_each cs qs held h.stand (has_points cs qs h)
    ∙ ap (λ xs. map standing_totals (map (series_standing qs held) xs)) h.ids

-- a cell among these has a point
pub point_at : (cs : List CellView) (qs : List Accepted) (i : ℕ) (c : CellView) → i < length cs
    → c ≡ get_or cs i c → AreCells cs qs → HasPoint c.id qs
point_at cs qs i c l e h = has_points cs qs h c.id (there cs i l e)
  where
    there : (ds : List CellView) (j : ℕ) → j < length ds → c ≡ get_or ds j c
        → is_among c.id (map id_of ds) ≡ true
    there [] j k f = absurd (omega (arith, k))
    there (d ∷ ds) zero k f = or_left (same_series c.id d.id) (is_among c.id (map id_of ds))
        (subst (λ (w : CellView). same_series c.id w.id ≡ true) f (same_series-refl c.id))
    there (d ∷ ds) (suc j) k f = or_right (same_series c.id d.id) (is_among c.id (map id_of ds))
        (there ds j (omega arith) f)

-- the rows of totals, cell by cell
pub rows_more : (qs : List Accepted) (held : List (List ℕ)) (cs : List CellView) (i : ℕ)
    (c : CellView) (all all' : List SeriesTotals) (t : SeriesTotals) → i < length cs
    → c ≡ get_or cs i c → all ≡ map (λ d. totals_of (series_standing qs held (id_of d)))
    (take i cs) → t ≡ totals_of (series_standing qs held c.id) → all' ≡ all ++ t ∷ []
    → all' ≡ map (λ d. totals_of (series_standing qs held (id_of d))) (take (i + 1) cs)
rows_more qs held cs i c all all' t l e a s p =
    p
    ∙ (ap (λ ts. ts ++ t ∷ []) a
    ∙ (ap (λ u. map (λ d. totals_of (series_standing qs held (id_of d))) (take i cs) ++ u ∷ []) s
    ∙ (ap (λ (d : CellView). map (λ d. totals_of (series_standing qs held (id_of d))) (take i cs)
    ++ totals_of (series_standing qs held d.id) ∷ []) e
    ∙ sym (map_more (λ d. totals_of (series_standing qs held (id_of d))) cs i c l))))

map_ids : (f : Identity → SeriesTotals) (cs : List CellView)
    → map (λ d. f (id_of d)) cs ≡ map f (map id_of cs)
map_ids f [] = refl
map_ids f (c ∷ cs) = ap (λ ts. f c.id ∷ ts) (map_ids f cs)

pub rows_all : (qs : List Accepted) (held : List (List ℕ)) (cs : List CellView) → AreCells cs qs
    → map (λ d. totals_of (series_standing qs held (id_of d))) cs
    ≡ map totals_of (all_series qs held)
rows_all qs held cs h = map_ids (λ x. totals_of (series_standing qs held x)) cs
    ∙ (ap (map (λ x. totals_of (series_standing qs held x))) h.ids ∙ rows_are qs held)
