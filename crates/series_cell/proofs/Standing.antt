-- What each call does to the points that a cell stands for.
use Rattle.std.proofs.Common.{◌≡◌, ℕ, ◌+◌, ◌<◌, ◌≤◌, ◌==◌, Bool, true, false, not, ◌&&◌, ◌||◌, List}
use Rattle.std.proofs.Common.{[], ◌∷◌, ◌++◌, map, filter, length, remove, take, drop, max, refl, ap}
use Rattle.std.proofs.Common.{sym, ◌∙◌, subst, arith, inl, inr}
use Rattle.std.specs.List.{list_all, list_any}
use Rattle.std.specs.List.Sorted.{IsNonDecreasingBy}
use Rattle.std.proofs.lemmas.Bool.{and_parts, eq-eqb}
use Rattle.std.proofs.lemmas.List.Folds.{list_any-append}
use Rattle.std.proofs.lemmas.List.{append_assoc, append-nil, map-append, length-map, length-append}
use Rattle.std.proofs.lemmas.List.{nil_from_length, take_at}
use Rattle.std.proofs.lemmas.List.Elements.{filter-append}
use Rattle.std.proofs.Math.Bool.{and-true, and-false, and_assoc}
use Rattle.std.proofs.Math.Seq.{drop-append_seam}
use Rattle.series_id.specs.Identity.{Identity, row_length}
use Rattle.metric_events.specs.DataPoint.{DataPoint}
use Rattle.metric_events.specs.Interval.{IsInterval}
use Rattle.metric_events.specs.Rows.{add_rows, zeros}
use Rattle.metric_events.specs.Points.{at, admitted, is_home, is_in_flight, is_acknowledged}
use Rattle.metric_events.specs.Points.{is_dropped, landed}
use Rattle.metric_events.specs.Series.{row_sum}
use Rattle.metric_events.specs.Standing.{stands}
use Rattle.metric_events.specs.declared.place.Place.{Place}
use Rattle.metric_events.specs.declared.place.Place.TheVariants.{Home, InFlight, Acknowledged}
use Rattle.metric_events.specs.declared.place.Place.TheVariants.{Dropped}
use Rattle.metric_events.specs.declared.accepted.Accepted.{Accepted}
use Rattle.metric_events.proofs.Lists.{all_append, all_first, all_last}
use Rattle.metric_events.proofs.Sums.{row_sum-append, row_sum_long, add_rows-comm, add_rows-zeros}
use Rattle.metric_events.proofs.Sums.{length-zeros}
use Rattle.metric_events.specs.Legal.{is_batch_home}
use Rattle.series_cell.specs.Cells.{CellView, Stands, AllOwn, InOrder, greatest_end, is_landed}
use Rattle.series_cell.specs.Cells.{lifted, end_of, AreTogether, bare, is_of_batch, is_home_of}
use Rattle.series_cell.specs.Cells.{is_other_or_off}
use Rattle.series_cell.specs.Spans.{span_of, end_of_spans, place_of, is_span_of, AreInOrder}
use Rattle.series_cell.specs.declared.batch_span.BatchSpan.{BatchSpan}
use Rattle.series_cell.proofs.Points.{all_own-append, all_own_first, all_own_last, all_own-map}
use Rattle.series_cell.proofs.Points.{sum_length, moves_at, moves_landed, moves_lifted, sum-moved}
use Rattle.series_cell.proofs.Points.{sum_out, row_sum_push, last_end, in_order_push, in_order-map}
use Rattle.series_cell.proofs.Points.{in_order_without, in_order_first, in_order_last, all_end_by}
use Rattle.series_cell.proofs.Points.{spans_in_order, last_greatest, greatest_end-append}
use Rattle.series_cell.proofs.Points.{greatest_end-map, spans_end, spans_moved, all_at, filter_at}
use Rattle.series_cell.proofs.Points.{filter_off, landed-gone, landed-home, landed-away, landed_off}
use Rattle.series_cell.proofs.Points.{lifted-gone, lifted-home, past, place_at, remove_at}

three : (xs ys zs ws : List Accepted) → (xs ++ (ys ++ zs)) ++ ws ≡ xs ++ (ys ++ (zs ++ ws))
three xs ys zs ws = append_assoc xs (ys ++ zs) ws ∙ ap (λ rs. xs ++ rs) (append_assoc ys zs ws)

pub map_three : (f : Accepted → Accepted) (xs ys zs : List Accepted)
    → map f (xs ++ (ys ++ zs)) ≡ map f xs ++ (map f ys ++ map f zs)
map_three f xs ys zs = map-append f xs (ys ++ zs) ∙ ap (λ rs. map f xs ++ rs) (map-append f ys zs)

-- what has not landed, and what is at home, is the cell's own

pub rest_own : (c : CellView) (qs : List Accepted) (h : Stands c qs)
    → AllOwn c.owner c.id (h.away ++ h.home)
rest_own c qs h =
    all_own_last c.owner c.id h.gone (h.away ++ h.home) (subst (AllOwn c.owner c.id) h.parts h.own)

pub away_own : (c : CellView) (qs : List Accepted) (h : Stands c qs) → AllOwn c.owner c.id h.away
away_own c qs h = all_own_first c.owner c.id h.away h.home (rest_own c qs h)

pub home_own : (c : CellView) (qs : List Accepted) (h : Stands c qs) → AllOwn c.owner c.id h.home
home_own c qs h = all_own_last c.owner c.id h.away h.home (rest_own c qs h)

-- the frontier

rest_end : (c : CellView) (qs : List Accepted) (h : Stands c qs)
    → end_of_spans 0 c.spans ≡ last_end 0 (h.away ++ h.home)
rest_end c qs h = ap (end_of_spans 0) h.spans ∙ spans_end 0 (h.away ++ h.home)

pub end_is : (c : CellView) (qs : List Accepted) → Stands c qs → end_of c ≡ greatest_end qs
end_is c qs h =
    omega (
      arith,
      h.landed,
      rest_end c qs h,
      last_greatest c.owner c.id (h.away ++ h.home)
          (rest_own c qs h) h.ordered,
      ap greatest_end h.parts,
      greatest_end-append h.gone
          (h.away ++ h.home),
    )

-- a point put at home
pub stands_put : (c : CellView) (s : List ℕ) (p : DataPoint) (b : ℕ) (qs : List Accepted)
    (accepted stored : List ℕ) (spans : List BatchSpan) (spare : ℕ) → s ≡ c.owner → Stands c qs
    → IsInterval p.span → length p.row ≡ row_length p.series.kind → p.series ≡ c.id
    → end_of c ≤ p.span.start → accepted ≡ add_rows c.accepted p.row
    → stored ≡ add_rows c.stored p.row
    → spans ≡ c.spans ++ span_of (admitted b s p) ∷ []
    → Stands (record c {
      accepted = accepted;
      stored = stored;
      spans =
          spans;
      spare = spare;
    }) (qs ++ admitted b s p ∷ [])
stands_put c s p b qs accepted stored spans spare e h interval long same late ea es em =
    let a = admitted b s p in
    record {
      gone = h.gone;
      away = h.away;
      home = h.home ++ a ∷ [];
      parts = ap (λ rs. rs ++ a ∷ []) h.parts ∙ three h.gone h.away h.home (a ∷ []);
      are_gone = h.are_gone;
      are_away = h.are_away;
      are_home = all_append (stands is_home) h.home (a ∷ []) h.are_home refl;
      own = all_own-append c.owner c.id qs (a ∷ []) h.own (
        record {
          series = same;
          sender = e;
          span = interval;
          long =
              long ∙ ap (λ (x : Identity). row_length x.kind) same;
        },
        tt,
      );
      ordered = subst InOrder (append_assoc h.away h.home (a ∷ []))
          (in_order_push c.owner c.id 0 (h.away ++ h.home) a (rest_own c qs h) h.ordered
          (omega (arith, late, rest_end c qs h)));
      accepted = ea ∙ (ap (λ r. add_rows r p.row) h.accepted
          ∙ sym (row_sum_push (row_length c.id.kind) qs a));
      stored = es ∙ (ap (λ r. add_rows r p.row) h.stored
          ∙ sym (row_sum_push (row_length c.id.kind) h.home a));
      in_flight = h.in_flight;
      acknowledged = h.acknowledged;
      dropped = h.dropped;
      spans = em ∙ (ap (λ ms. ms ++ span_of a ∷ []) h.spans
          ∙ (sym (map-append span_of (h.away ++ h.home) (a ∷ []))
          ∙ ap (map span_of) (append_assoc h.away h.home (a ∷ []))));
      cut = h.cut;
      landed = h.landed;
    }

-- where a point that is at home stands among the points
pub record Parted (c : CellView) (front after : List Accepted) (a : Accepted)
    (h : Stands c (front ++ a ∷ after)) : Type 0 where
  pub between : List Accepted
  pub home : h.home ≡ between ++ a ∷ after
  pub before : front ≡ h.gone ++ (h.away ++ between)

home_off : (f : ℕ) (place : Place) → is_home place ≡ true
    → (is_landed place ≡ false) × (is_in_flight f place ≡ false)
home_off f Home e = (refl, refl)
home_off f place e = absurd (let k : false ≡ true = e in cc)

pub parted : (c : CellView) (before after : List Accepted) (a : Accepted)
    (h : Stands c (before ++ a ∷ after)) → is_home a.place ≡ true → Parted c before after a h
parted c before after a h e =
    let o = home_off c.flush a.place e in
    let p =
    past (stands is_landed) h.gone (h.away ++ h.home) before after a h.are_gone o.0 h.parts in
    let q = past (stands (is_in_flight c.flush)) h.away h.home p.between after a h.are_away o.1
    (sym p.rest) in
    record {
      between = q.between;
      home = q.rest;
      before =
          p.first ∙ ap (λ rs. h.gone ++ rs) q.first;
    }

-- the spans of what is at home
pub home_spans : (c : CellView) (qs : List Accepted) (h : Stands c qs)
    → drop c.cut c.spans ≡ map span_of h.home
home_spans c qs h =
    ap (λ n. drop n c.spans) h.cut
    ∙ (ap (drop (length h.away)) (h.spans ∙ map-append span_of h.away h.home)
    ∙ (ap (λ n. drop n (map span_of h.away ++ map span_of h.home)) (sym (length-map h.away span_of))
    ∙ drop-append_seam (map span_of h.away) (map span_of h.home)))

-- where its span stands among the spans
pub span_at : (c : CellView) (before after : List Accepted) (a : Accepted)
    (h : Stands c (before ++ a ∷ after)) (p : Parted c before after a h)
    → c.cut + place_of a.point.span.start (drop c.cut c.spans) ≡ length (h.away ++ p.between)
span_at c before after a h p =
    let spans = home_spans c (before ++ a ∷ after) h ∙ ap (map span_of) p.home in
    let own = subst (AllOwn c.owner c.id) p.home (home_own c (before ++ a ∷ after) h) in
    let ordered = subst InOrder p.home (in_order_last h.away h.home h.ordered) in
    omega (
      arith,
      h.cut,
      ap (place_of a.point.span.start) spans,
      place_at p.between after a
          (all_own_last c.owner c.id p.between (a ∷ after) own).0.span
          (all_end_by p.between after a ordered),
      length-append h.away p.between,
    )

pub span_inside : (c : CellView) (before after : List Accepted) (a : Accepted)
    (h : Stands c (before ++ a ∷ after)) (p : Parted c before after a h)
    → c.cut + place_of a.point.span.start (drop c.cut c.spans) < length c.spans
span_inside c before after a h p =
    omega (
      arith,
      span_at c before after a h p,
      ap length h.spans,
      length-map (h.away ++ h.home)
          span_of,
      length-append h.away h.home,
      ap length p.home,
      length-append p.between (a ∷ after),
      length-append h.away p.between,
    )

-- a point taken out
pub stands_remove : (c : CellView) (b : ℕ) (p : DataPoint) (before after : List Accepted)
    (accepted stored : List ℕ) (spans : List BatchSpan) (spare : ℕ)
    → (h : Stands c (before ++ admitted b c.owner p ∷ after))
    → accepted ≡ row_sum (row_length c.id.kind) (before ++ after)
    → stored ≡ row_sum (row_length c.id.kind)
    ((parted c before after (admitted b c.owner p) h refl).between ++ after)
    → spans ≡ remove c.spans (c.cut
    + place_of p.span.start (drop c.cut c.spans))
    → Stands (record c {
      accepted = accepted;
      stored = stored;
      spans =
          spans;
      spare = spare;
    }) (before ++ after)
stands_remove c b p before after accepted stored spans spare h ea es em =
    let a = admitted b c.owner p in
    let q = parted c before after a h refl in
    let home_all : list_all (stands is_home) (q.between ++ a ∷ after) ≡ true =
    subst (λ rs. list_all (stands is_home) rs ≡ true) q.home h.are_home in
    record {
      gone = h.gone;
      away = h.away;
      home = q.between ++ after;
      parts = ap (λ rs. rs ++ after) q.before ∙ three h.gone h.away q.between after;
      are_gone = h.are_gone;
      are_away = h.are_away;
      are_home = all_append (stands is_home) q.between after
          (all_first (stands is_home) q.between (a ∷ after) home_all)
          (all_last (stands is_home) q.between (a ∷ after) home_all);
      own = all_own-append c.owner c.id before after
          (all_own_first c.owner c.id before (a ∷ after) h.own)
          (all_own_last c.owner c.id before (a ∷ after) h.own).1;
      ordered =
          let joined : InOrder ((h.away ++ q.between) ++ a ∷ after) =
          subst InOrder (ap (λ rs. h.away ++ rs) q.home
          ∙ sym (append_assoc h.away q.between (a ∷ after))) h.ordered in
          subst InOrder (append_assoc h.away q.between after)
          (in_order_without (h.away ++ q.between) after a joined);
      accepted = ea;
      stored = es;
      in_flight = h.in_flight;
      acknowledged = h.acknowledged;
      dropped = h.dropped;
      spans =
          em
          ∙ (ap (remove c.spans) (span_at c before after a h q)
          ∙ (ap (λ ms. remove ms (length (h.away ++ q.between))) spans_are
          ∙ (ap (remove (map span_of (h.away ++ q.between) ++ span_of a ∷ map span_of after))
          (sym (length-map (h.away ++ q.between) span_of))
          ∙ (remove_at (map span_of (h.away ++ q.between)) (map span_of after) (span_of a)
          ∙ (sym (map-append span_of (h.away ++ q.between) after)
          ∙ ap (map span_of) (append_assoc h.away q.between after))))));
      cut = h.cut;
      landed = h.landed;
    }
  where
    spans_are : c.spans ≡ map span_of
        (h.away ++ (parted c before after (admitted b c.owner p) h refl).between)
        ++ span_of (admitted b c.owner p) ∷ map span_of after
    spans_are =
        let a = admitted b c.owner p in
        let q = parted c before after a h refl in
        h.spans ∙ (ap (λ rs. map span_of (h.away ++ rs)) q.home
        ∙ (ap (map span_of) (sym (append_assoc h.away q.between (a ∷ after)))
        ∙ map-append span_of (h.away ++ q.between) (a ∷ after)))

-- nothing in flight
pub none_away : (c : CellView) (qs : List Accepted) (h : Stands c qs) → c.cut ≡ 0 → h.away ≡ []
none_away c qs h e = nil_from_length h.away (sym h.cut ∙ e)

zero_first : (n : ℕ) (qs : List Accepted) → add_rows (zeros n) (row_sum n qs) ≡ row_sum n qs
zero_first n qs = add_rows-zeros n (row_sum n qs) (row_sum_long n qs)

-- what is at home goes with a flush
pub stands_lift : (c : CellView) (f : ℕ) (qs : List Accepted) (in_flight stored : List ℕ) (cut : ℕ)
    → Stands c qs → c.cut ≡ 0 → in_flight ≡ add_rows c.in_flight c.stored
    → stored ≡ zeros (row_length c.id.kind) → cut ≡ length c.spans
    → Stands (record c { in_flight = in_flight; stored = stored; cut = cut; flush = f })
    (map (lifted f) qs)
stands_lift c f qs in_flight stored cut h none ef es e =
    let n = row_length c.id.kind in
    let empty = none_away c qs h none in
    record {
      gone = h.gone;
      away = map (at (InFlight f)) h.home;
      home = [];
      parts =
          ap (map (lifted f)) h.parts
          ∙ (map_three (lifted f) h.gone h.away h.home
          ∙ (ap (λ rs. rs ++ (map (lifted f) h.away ++ map (lifted f) h.home))
          (lifted-gone f h.gone h.are_gone)
          ∙ (ap (λ rs. h.gone ++ (map (lifted f) rs ++ map (lifted f) h.home)) empty
          ∙ (ap (λ rs. h.gone ++ rs) (lifted-home f h.home h.are_home)
          ∙ ap (λ rs. h.gone ++ rs) (sym (append-nil (map (at (InFlight f)) h.home)))))));
      are_gone = h.are_gone;
      are_away = all_at (is_in_flight f) (InFlight f) h.home (eq-eqb f f refl);
      are_home = refl;
      own = all_own-map c.owner c.id (lifted f) (moves_lifted f) qs h.own;
      ordered = subst InOrder (sym (append-nil (map (at (InFlight f)) h.home)))
          (in_order-map (at (InFlight f)) (moves_at (InFlight f)) h.home
          (in_order_last h.away h.home h.ordered));
      accepted = h.accepted ∙ sym (sum-moved n (lifted f) (moves_lifted f) qs);
      stored = es;
      in_flight =
          ef
          ∙ (ap (λ r. add_rows r c.stored) (h.in_flight ∙ ap (row_sum n) empty)
          ∙ (ap (add_rows (zeros n)) h.stored
          ∙ (zero_first n h.home
          ∙ sym (sum-moved n (at (InFlight f)) (moves_at (InFlight f)) h.home))));
      acknowledged = h.acknowledged;
      dropped = h.dropped;
      spans =
          h.spans
          ∙ (ap (λ rs. map span_of (rs ++ h.home)) empty
          ∙ (sym (spans_moved (at (InFlight f)) (moves_at (InFlight f)) h.home)
          ∙ ap (map span_of) (sym (append-nil (map (at (InFlight f)) h.home)))));
      cut =
          e ∙ (ap length h.spans
          ∙ (length-map (h.away ++ h.home) span_of
          ∙ (ap (λ rs. length (rs ++ h.home)) empty
          ∙ sym (length-map h.home (at (InFlight f))))));
      landed = h.landed;
    }

landed-three : (f : ℕ) (q : Place) (gone away home : List Accepted)
    → list_all (stands is_landed) gone ≡ true → list_all (stands (is_in_flight f)) away ≡ true
    → list_all (stands is_home) home ≡ true
    → map (landed f q) (gone ++ (away ++ home)) ≡ gone ++ (map (at q) away ++ home)
landed-three f q gone away home g a h =
    map_three (landed f q) gone away home
    ∙ (ap (λ rs. rs ++ (map (landed f q) away ++ map (landed f q) home)) (landed-gone f q gone g)
    ∙ (ap (λ rs. gone ++ (rs ++ map (landed f q) home)) (landed-away f q away a)
    ∙ ap (λ rs. gone ++ (map (at q) away ++ rs)) (landed-home f q home h)))

-- what is in flight, by the number of its flush
away_with : (c : CellView) (f : ℕ) (qs : List Accepted) (h : Stands c qs) → f ≡ c.flush
    → list_all (stands (is_in_flight f)) h.away ≡ true
away_with c f qs h e =
    subst (λ g. list_all (stands (is_in_flight g)) h.away ≡ true) (sym e) h.are_away

-- what was in flight is at home again
pub stands_down : (c : CellView) (f : ℕ) (qs : List Accepted) (in_flight stored : List ℕ)
    → f ≡ c.flush → Stands c qs → stored ≡ add_rows c.stored c.in_flight
    → in_flight ≡ zeros (row_length c.id.kind)
    → Stands (record c { in_flight = in_flight; stored = stored; cut = 0 })
    (map (landed f Home) qs)
stands_down c f qs in_flight stored e h es ef =
    let n = row_length c.id.kind in
    let moved = map (at Home) h.away in
    let away = away_with c f qs h e in
    record {
      gone = h.gone;
      away = [];
      home = moved ++ h.home;
      parts = ap (map (landed f Home)) h.parts
          ∙ landed-three f Home h.gone h.away h.home h.are_gone away h.are_home;
      are_gone = h.are_gone;
      are_away = refl;
      are_home =
          all_append (stands is_home) moved h.home (all_at is_home Home h.away refl) h.are_home;
      own = all_own-map c.owner c.id (landed f Home) (moves_landed f Home) qs h.own;
      ordered = subst InOrder (landed-three f Home [] h.away h.home refl away h.are_home)
          (in_order-map (landed f Home) (moves_landed f Home) (h.away ++ h.home) h.ordered);
      accepted = h.accepted ∙ sym (sum-moved n (landed f Home) (moves_landed f Home) qs);
      stored =
          es
          ∙ (ap (λ r. add_rows r c.in_flight) h.stored
          ∙ (ap (add_rows (row_sum n h.home)) h.in_flight
          ∙ (add_rows-comm (row_sum n h.home) (row_sum n h.away)
          ∙ (ap (λ r. add_rows r (row_sum n h.home))
          (sym (sum-moved n (at Home) (moves_at Home) h.away))
          ∙ sym (row_sum-append n moved h.home)))));
      in_flight = ef;
      acknowledged = h.acknowledged;
      dropped = h.dropped;
      spans =
          h.spans
          ∙ (map-append span_of h.away h.home
          ∙ (ap (λ ms. ms ++ map span_of h.home)
          (sym (spans_moved (at Home) (moves_at Home) h.away))
          ∙ sym (map-append span_of moved h.home)));
      cut = refl;
      landed = h.landed;
    }

-- the spans of what is in flight
pub away_spans : (c : CellView) (qs : List Accepted) (h : Stands c qs)
    → take c.cut c.spans ≡ map span_of h.away
away_spans c qs h =
    ap (take c.cut) (h.spans ∙ map-append span_of h.away h.home)
    ∙ take_at (map span_of h.away) (map span_of h.home) c.cut
    (length-map h.away span_of ∙ sym h.cut)

-- what is at home is in order of time, and what is in flight
pub home_in_order : (c : CellView) (qs : List Accepted) → Stands c qs → (ms : List BatchSpan)
    → ms ≡ drop c.cut c.spans → AreInOrder ms
home_in_order c qs h ms e = subst AreInOrder (sym (e ∙ home_spans c qs h))
    (spans_in_order c.owner c.id h.home (home_own c qs h) (in_order_last h.away h.home h.ordered))

pub away_in_order : (c : CellView) (qs : List Accepted) → Stands c qs → (ms : List BatchSpan)
    → ms ≡ take c.cut c.spans → AreInOrder ms
away_in_order c qs h ms e = subst AreInOrder (sym (e ∙ away_spans c qs h))
    (spans_in_order c.owner c.id h.away (away_own c qs h) (in_order_first h.away h.home h.ordered))

-- where a span that starts at a moment is found among those at home
pub found : (c : CellView) (qs : List Accepted) (home : List BatchSpan) (start from n : ℕ)
    → Stands c qs → home ≡ drop c.cut c.spans → from ≡ start
    → (IsNonDecreasingBy (λ m. m.span.end) home → n ≡ place_of from home)
    → n ≡ place_of start (drop c.cut c.spans)
found c qs home start from n h e f k =
    k (home_in_order c qs h home e).ends ∙ (ap (λ t. place_of t home) f ∙ ap (place_of start) e)

added : (n : ℕ) (gone away : List Accepted) (t : Place → Bool) (q : Place) → t q ≡ true
    → (row flight : List ℕ) → row ≡ row_sum n (filter (stands t) gone) → flight ≡ row_sum n away
    → add_rows row flight ≡ row_sum n (filter (stands t) (gone ++ map (at q) away))
added n gone away t q e row flight r f =
    ap (λ w. add_rows w flight) r
    ∙ (ap (add_rows (row_sum n (filter (stands t) gone)))
    (f ∙ (sym (sum-moved n (at q) (moves_at q) away)
    ∙ ap (row_sum n) (sym (filter_at t q away e))))
    ∙ (sym (row_sum-append n (filter (stands t) gone) (filter (stands t) (map (at q) away)))
    ∙ ap (row_sum n) (sym (filter-append (stands t) gone (map (at q) away)))))

unmoved : (gone away : List Accepted) (t : Place → Bool) (q : Place) → t q ≡ false
    → filter (stands t) gone ≡ filter (stands t) (gone ++ map (at q) away)
unmoved gone away t q e = sym (filter-append (stands t) gone (map (at q) away)
    ∙ (ap (λ rs. filter (stands t) gone ++ rs) (filter_off t q away e)
    ∙ append-nil (filter (stands t) gone)))

landed_end : (c : CellView) (qs : List Accepted) (h : Stands c qs) (q : Place)
    → max c.landed (end_of_spans 0 (take c.cut c.spans))
    ≡ greatest_end (h.gone ++ map (at q) h.away)
landed_end c qs h q =
    omega (
      arith,
      h.landed,
      ap (end_of_spans 0) (away_spans c qs h),
      spans_end 0 h.away,
      last_greatest c.owner c.id h.away (away_own c qs h)
          (in_order_first h.away h.home h.ordered),
      greatest_end-append h.gone
          (map (at q) h.away),
      greatest_end-map q h.away,
    )

-- what was in flight has landed: acknowledged, or dropped
stands_landed : (c : CellView) (f : ℕ) (q : Place) (qs : List Accepted)
    (in_flight acknowledged dropped : List ℕ) (spans : List BatchSpan) (last spare : ℕ)
    → f ≡ c.flush → is_landed q ≡ true → (h : Stands c qs)
    → acknowledged ≡ row_sum (row_length c.id.kind)
    (filter (stands is_acknowledged) (h.gone ++ map (at q) h.away))
    → dropped ≡ row_sum (row_length c.id.kind)
    (filter (stands is_dropped) (h.gone ++ map (at q) h.away))
    → in_flight ≡ zeros (row_length c.id.kind) → spans ≡ drop c.cut c.spans
    → last ≡ max c.landed (end_of_spans 0 (take c.cut c.spans))
    → Stands (record c {
      in_flight = in_flight;
      acknowledged =
          acknowledged;
      dropped = dropped;
      spans = spans;
      cut =
          0;
      landed = last;
      spare = spare;
    }) (map (landed f q) qs)
stands_landed c f q qs in_flight acknowledged dropped spans last spare e lands h ea ed ef em el =
    let moved = map (at q) h.away in
    record {
      gone = h.gone ++ moved;
      away = [];
      home = h.home;
      parts = ap (map (landed f q)) h.parts
          ∙ (landed-three f q h.gone h.away h.home h.are_gone (away_with c f qs h e) h.are_home
          ∙ sym (append_assoc h.gone moved h.home));
      are_gone =
          all_append (stands is_landed) h.gone moved h.are_gone (all_at is_landed q h.away lands);
      are_away = refl;
      are_home = h.are_home;
      own = all_own-map c.owner c.id (landed f q) (moves_landed f q) qs h.own;
      ordered = in_order_last h.away h.home h.ordered;
      accepted =
          h.accepted ∙ sym (sum-moved (row_length c.id.kind) (landed f q) (moves_landed f q) qs);
      stored = h.stored;
      in_flight = ef;
      acknowledged = ea;
      dropped = ed;
      spans = em ∙ home_spans c qs h;
      cut = refl;
      landed = el ∙ landed_end c qs h q;
    }

pub stands_acknowledged : (c : CellView) (f : ℕ) (qs : List Accepted)
    (in_flight acknowledged : List ℕ) (spans : List BatchSpan) (last spare : ℕ) → f ≡ c.flush
    → Stands c qs → acknowledged ≡ add_rows c.acknowledged c.in_flight
    → in_flight ≡ zeros (row_length c.id.kind) → spans ≡ drop c.cut c.spans
    → last ≡ max c.landed (end_of_spans 0 (take c.cut c.spans))
    → Stands (record c {
      in_flight = in_flight;
      acknowledged = acknowledged;
      spans =
          spans;
      cut = 0;
      landed = last;
      spare = spare;
    })
    (map (landed f Acknowledged) qs)
stands_acknowledged c f qs in_flight acknowledged spans last spare e h ea =
    let n = row_length c.id.kind in
    stands_landed c f Acknowledged qs in_flight acknowledged c.dropped spans last spare e refl h
    (ea ∙ added n h.gone h.away is_acknowledged Acknowledged refl c.acknowledged c.in_flight
    h.acknowledged h.in_flight)
    (h.dropped ∙ ap (row_sum n) (unmoved h.gone h.away is_dropped Acknowledged refl))

pub stands_dropped : (c : CellView) (f : ℕ) (qs : List Accepted) (in_flight dropped : List ℕ)
    (spans : List BatchSpan) (last spare : ℕ) → f ≡ c.flush → Stands c qs
    → dropped ≡ add_rows c.dropped c.in_flight → in_flight ≡ zeros (row_length c.id.kind)
    → spans ≡ drop c.cut c.spans → last ≡ max c.landed (end_of_spans 0 (take c.cut c.spans))
    → Stands (record c {
      in_flight = in_flight;
      dropped = dropped;
      spans = spans;
      cut =
          0;
      landed = last;
      spare = spare;
    }) (map (landed f Dropped) qs)
stands_dropped c f qs in_flight dropped spans last spare e h ed =
    let n = row_length c.id.kind in
    stands_landed c f Dropped qs in_flight c.acknowledged dropped spans last spare e refl h
    (h.acknowledged ∙ ap (row_sum n) (unmoved h.gone h.away is_acknowledged Dropped refl))
    (ed ∙ added n h.gone h.away is_dropped Dropped refl c.dropped c.in_flight h.dropped h.in_flight)

-- whether a batch can be taken out
marked : (b : ℕ) (qs : List Accepted)
    → list_any (is_span_of b) (map span_of qs) ≡ list_any (is_of_batch b) qs
marked b [] = refl
marked b (a ∷ qs) = ap (λ v. (a.batch == b) || v) (marked b qs)

pub flying_off : (f : ℕ) (q : Place) → is_in_flight f q ≡ true → is_home q ≡ false
flying_off f Home e = absurd (let k : false ≡ true = e in cc)
flying_off f q e = refl

-- a point of the batch that is off keeps the batch from being at home
not_home : (b : ℕ) (t : Place → Bool) → ((q : Place) → t q ≡ true → is_home q ≡ false)
    → (qs : List Accepted) → list_all (stands t) qs ≡ true → list_any (is_of_batch b) qs ≡ true
    → is_batch_home b qs ≡ false
not_home b t k [] h m = absurd (let q : false ≡ true = m in cc)
not_home b t k (a ∷ qs) h m =
    let p = and_parts (t a.place) (list_all (stands t) qs) h in
    both (a.batch == b) refl (k a.place p.0) (not_home b t k qs p.1)
  where
    both : (v : Bool) → (a.batch == b) ≡ v → is_home a.place ≡ false
        → (list_any (is_of_batch b) qs ≡ true → is_batch_home b qs ≡ false)
        → ((not (a.batch == b) || is_home a.place) && is_batch_home b qs) ≡ false
    both true e o r = rw (e, o) refl
    both false e o r = let n : list_any (is_of_batch b) qs ≡ true = rw e at m in rw e (r n)

home_split : (b : ℕ) (qs rs : List Accepted)
    → is_batch_home b (qs ++ rs) ≡ (is_batch_home b qs && is_batch_home b rs)
home_split b [] rs = refl
home_split b (a ∷ qs) rs = ap (λ v. (not (a.batch == b) || is_home a.place) && v)
    (home_split b qs rs) ∙ sym (and_assoc (not (a.batch == b) || is_home a.place)
    (is_batch_home b qs) (is_batch_home b rs))

-- a home point of the batch among points none of which is both
clash : (b : ℕ) (qs : List Accepted) → list_all (stands is_home) qs ≡ true
    → list_any (is_of_batch b) qs ≡ true → list_all (is_other_or_off b) qs ≡ true → ⊥
clash b [] h m o = let q : false ≡ true = m in cc
clash b (a ∷ qs) h m o =
    let p = and_parts (is_home a.place) (list_all (stands is_home) qs) h in
    let r = and_parts (is_other_or_off b a) (list_all (is_other_or_off b) qs) o in
    both (a.batch == b) refl p.0 r.0 (λ n. clash b qs p.1 n r.1)
  where
    both : (v : Bool) → (a.batch == b) ≡ v → is_home a.place ≡ true
        → (not (a.batch == b) || not (is_home a.place)) ≡ true
        → (list_any (is_of_batch b) qs ≡ true → ⊥) → ⊥
    both true e g x r = let y : (not true || not true) ≡ true = rw (e, g) at x in
        let z : false ≡ true = y in cc
    both false e g x r = r (rw e at m)

none_home_of : (b : ℕ) (t : Place → Bool) → ((q : Place) → t q ≡ true → is_home q ≡ false)
    → (qs : List Accepted) → list_all (stands t) qs ≡ true → list_any (is_home_of b) qs ≡ false
none_home_of b t k [] h = refl
none_home_of b t k (a ∷ qs) h =
    let p = and_parts (t a.place) (list_all (stands t) qs) h in
    rw (k a.place p.0, none_home_of b t k qs p.1, and-false (a.batch == b)) refl

all_home_of : (b : ℕ) (qs : List Accepted) → list_all (stands is_home) qs ≡ true
    → list_any (is_home_of b) qs ≡ list_any (is_of_batch b) qs
all_home_of b [] h = refl
all_home_of b (a ∷ qs) h =
    let p = and_parts (is_home a.place) (list_all (stands is_home) qs) h in
    rw (p.0, all_home_of b qs p.1, and-true (a.batch == b)) refl

-- a point of the batch is at home where the spans that are at home have one of its
pub home_of_is : (c : CellView) (qs : List Accepted) (b : ℕ) (r : Bool) → Stands c qs
    → r ≡ list_any (is_span_of b) (drop c.cut c.spans) → r ≡ list_any (is_home_of b) qs
home_of_is c qs b r h e =
    e ∙ (ap (list_any (is_span_of b)) (home_spans c qs h)
    ∙ (marked b h.home ∙ (sym (all_home_of b h.home h.are_home) ∙ sym parts)))
  where
    parts : list_any (is_home_of b) qs ≡ list_any (is_home_of b) h.home
    parts =
        ap (list_any (is_home_of b)) h.parts
        ∙ (list_any-append (is_home_of b) h.gone (h.away ++ h.home)
        ∙ (ap (λ v. v || list_any (is_home_of b) (h.away ++ h.home))
        (none_home_of b is_landed landed_off h.gone h.are_gone)
        ∙ (list_any-append (is_home_of b) h.away h.home
        ∙ ap (λ v. v || list_any (is_home_of b) h.home)
        (none_home_of b (is_in_flight c.flush) (flying_off c.flush) h.away h.are_away))))

pub can_remove_is : (c : CellView) (qs : List Accepted) (b : ℕ) (r : Bool) → Stands c qs
    → list_any (is_of_batch b) qs ≡ true → AreTogether b qs
    → r ≡ list_any (is_span_of b) (drop c.cut c.spans) → r ≡ is_batch_home b qs
can_remove_is c qs b r h some one e = cases (list_any (is_of_batch b) h.home) refl
  where
    is : r ≡ list_any (is_of_batch b) h.home
    is = e ∙ (ap (list_any (is_span_of b)) (home_spans c qs h) ∙ marked b h.home)

    split : is_batch_home b qs
        ≡ (is_batch_home b h.gone && (is_batch_home b h.away && is_batch_home b h.home))
    split = ap (is_batch_home b) h.parts
        ∙ (home_split b h.gone (h.away ++ h.home)
        ∙ ap (λ v. is_batch_home b h.gone && v) (home_split b h.away h.home))

    some_of : list_any (is_of_batch b) h.gone ≡ false → list_any (is_of_batch b) h.away ≡ false
        → list_any (is_of_batch b) h.home ≡ false → ⊥
    some_of g a o =
        let parts : list_any (is_of_batch b) qs
        ≡ (list_any (is_of_batch b) h.gone
        || (list_any (is_of_batch b) h.away || list_any (is_of_batch b) h.home)) =
        ap (list_any (is_of_batch b)) h.parts
        ∙ (list_any-append (is_of_batch b) h.gone (h.away ++ h.home)
        ∙ ap (λ v. list_any (is_of_batch b) h.gone || v)
        (list_any-append (is_of_batch b) h.away h.home)) in
        let none : list_any (is_of_batch b) qs ≡ false = parts ∙ rw (g, a, o) refl in
        (let q : false ≡ true = sym none ∙ some in cc)

    none_home : list_any (is_of_batch b) h.home ≡ false → is_batch_home b qs ≡ false
    none_home o = gone (list_any (is_of_batch b) h.gone) refl
      where
        gone : (v : Bool) → list_any (is_of_batch b) h.gone ≡ v → is_batch_home b qs ≡ false
        gone true g = split ∙ ap (λ v. v && (is_batch_home b h.away && is_batch_home b h.home))
            (not_home b is_landed landed_off h.gone h.are_gone g)
        gone false g = away (list_any (is_of_batch b) h.away) refl
          where
            away : (v : Bool) → list_any (is_of_batch b) h.away ≡ v → is_batch_home b qs ≡ false
            away true a = split ∙ (ap (λ v. is_batch_home b h.gone && (v && is_batch_home b h.home))
                (not_home b (is_in_flight c.flush) (flying_off c.flush) h.away h.are_away a)
                ∙ and-false (is_batch_home b h.gone))
            away false a = absurd (some_of g a o)

    cases : (v : Bool) → list_any (is_of_batch b) h.home ≡ v → r ≡ is_batch_home b qs
    cases true o = is ∙ (o ∙ sym
        (elim one [ inl t ↦ t | inr off ↦ absurd (clash b h.home h.are_home o (off_last off)) ]))
      where
        off_last : list_all (is_other_or_off b) qs ≡ true
            → list_all (is_other_or_off b) h.home ≡ true
        off_last off = all_last (is_other_or_off b) h.away h.home
            (all_last (is_other_or_off b) h.gone (h.away ++ h.home)
            (subst (λ rs. list_all (is_other_or_off b) rs ≡ true) h.parts off))
    cases false o = is ∙ (o ∙ sym (none_home o))

-- a span put at home alone: the rows stay
pub stands_put_span : (c : CellView) (s : List ℕ) (p : DataPoint) (b : ℕ) (qs : List Accepted)
    (spans : List BatchSpan) (spare : ℕ) → s ≡ c.owner → Stands c qs → IsInterval p.span
    → p.series ≡ c.id → end_of c ≤ p.span.start
    → spans ≡ c.spans ++ span_of (admitted b s p) ∷ []
    → Stands (record c { spans = spans; spare = spare })
    (qs ++ admitted b s (bare p) ∷ [])
stands_put_span c s p b qs spans spare e h interval same late em =
    let m = row_length p.series.kind in
    let n : m ≡ row_length c.id.kind = ap (λ (x : Identity). row_length x.kind) same in
    stands_put c s (bare p) b qs c.accepted c.stored spans spare e h interval (length-zeros m) same
    late
    (unchanged c.accepted m (ap length h.accepted ∙ (sum_length c.owner c.id qs h.own ∙ sym n)))
    (unchanged c.stored m
    (ap length h.stored ∙ (sum_length c.owner c.id h.home (home_own c qs h) ∙ sym n))) em
  where
    unchanged : (row : List ℕ) (n : ℕ) → length row ≡ n → row ≡ add_rows row (zeros n)
    unchanged row n l = sym (add_rows-comm row (zeros n) ∙ add_rows-zeros n row (omega (arith, l)))

-- the rows that a point at home is taken from
pub record Taken (c : CellView) (p : DataPoint) (all home : List Accepted) : Type 0 where
  pub accepted : c.accepted ≡ add_rows p.row (row_sum (row_length c.id.kind) all)
  pub stored : c.stored ≡ add_rows p.row (row_sum (row_length c.id.kind) home)
  pub accepted_long : length (row_sum (row_length c.id.kind) all) ≡ row_length c.id.kind
  pub stored_long : length (row_sum (row_length c.id.kind) home) ≡ row_length c.id.kind
  pub long : length p.row ≡ row_length c.id.kind

pub taken_from : (c : CellView) (b : ℕ) (p : DataPoint) (before after : List Accepted)
    (h : Stands c (before ++ admitted b c.owner p ∷ after))
    → Taken c p (before ++ after)
    ((parted c before after (admitted b c.owner p) h refl).between ++ after)
taken_from c b p before after h =
    let a = admitted b c.owner p in
    let n = row_length c.id.kind in
    let q = parted c before after a h refl in
    let one = all_own_last c.owner c.id before (a ∷ after) h.own in
    let home = subst (AllOwn c.owner c.id) q.home (home_own c (before ++ a ∷ after) h) in
    record {
      accepted = h.accepted ∙ sum_out n before after a;
      stored = h.stored ∙ (ap (row_sum n) q.home ∙ sum_out n q.between after a);
      accepted_long = sum_length c.owner c.id (before ++ after)
          (all_own-append c.owner c.id before after
          (all_own_first c.owner c.id before (a ∷ after) h.own) one.1);
      stored_long = sum_length c.owner c.id (q.between ++ after)
          (all_own-append c.owner c.id q.between after
          (all_own_first c.owner c.id q.between (a ∷ after) home) one.1);
      long = one.0.long;
    }

-- a span taken out alone: the rows stay
pub stands_remove_span : (c : CellView) (b : ℕ) (p : DataPoint) (before after : List Accepted)
    (spans : List BatchSpan) (spare : ℕ)
    → (h : Stands c (before ++ admitted b c.owner (bare p) ∷ after))
    → spans ≡ remove c.spans (c.cut + place_of p.span.start (drop c.cut c.spans))
    → Stands (record c { spans = spans; spare = spare }) (before ++ after)
stands_remove_span c b p before after spans spare h em =
    let t = taken_from c b (bare p) before after h in
    stands_remove c b (bare p) before after c.accepted c.stored spans spare h
    (t.accepted ∙ without (row_length p.series.kind)
    _ (t.accepted_long ∙ (sym t.long ∙ length-zeros (row_length p.series.kind))))
    (t.stored ∙ without (row_length p.series.kind)
    _ (t.stored_long ∙ (sym t.long ∙ length-zeros (row_length p.series.kind)))) em
  where
    without : (n : ℕ) (row : List ℕ) → length row ≡ n → add_rows (zeros n) row ≡ row
    without n row l = add_rows-zeros n row (omega (arith, l))

pub stands_none : (c : CellView) → c.accepted ≡ zeros (row_length c.id.kind)
    → c.stored ≡ zeros (row_length c.id.kind) → c.in_flight ≡ zeros (row_length c.id.kind)
    → c.acknowledged ≡ zeros (row_length c.id.kind) → c.dropped ≡ zeros (row_length c.id.kind)
    → c.spans ≡ [] → c.cut ≡ 0 → c.landed ≡ 0 → Stands c []
stands_none c ea es ef ek ed em ec el = record {
  gone = [];
  away = [];
  home = [];
  parts = refl;
  are_gone = refl;
  are_away = refl;
  are_home = refl;
  own = tt;
  ordered = tt;
  accepted = ea;
  stored = es;
  in_flight = ef;
  acknowledged = ek;
  dropped = ed;
  spans = em;
  cut = ec;
  landed = el;
}
