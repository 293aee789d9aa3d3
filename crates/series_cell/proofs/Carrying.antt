-- What the next round begins with.
use Rattle.std.proofs.Common.{◌≡◌, ℕ, ◌<◌, ◌^◌, true, List, [], ◌∷◌, ◌++◌, map, length, refl, ap}
use Rattle.std.proofs.Common.{sym, ◌∙◌, subst, arith, zero, suc, Some, None}
use Rattle.std.specs.declared.option.Option.{Option}
use Rattle.std.specs.List.{list_all}
use Rattle.std.proofs.lemmas.Option.{none-some, same_Some}
use Rattle.series_id.specs.Identity.{Identity, row_length}
use Rattle.metric_events.specs.Interval.{Interval, IsInterval, joined_to}
use Rattle.metric_events.specs.Rows.{add_rows, zeros}
use Rattle.metric_events.specs.Points.{is_home, mark, carried_of}
use Rattle.metric_events.specs.Opening.{up_to_frontier}
use Rattle.metric_events.specs.Series.{hull, row_sum}
use Rattle.metric_events.specs.Standing.{stands}
use Rattle.metric_events.specs.declared.accepted.Accepted.{Accepted}
use Rattle.metric_events.specs.declared.opened_series.OpenedSeries.{OpenedSeries}
use Rattle.metric_events.proofs.Intervals.{starts, ends_after, interval_is}
use Rattle.metric_events.proofs.Fits.{joined_is}
use Rattle.metric_events.proofs.Closing.{no_hull}
use Rattle.metric_events.proofs.Sums.{add_rows-comm, add_rows-zeros, length-zeros}
use Rattle.series_cell.specs.Cells.{CellView, Stands, AllOwn, InOrder, greatest_end, end_of}
use Rattle.series_cell.specs.Cells.{home_hull, HandsOn, opened_with}
use Rattle.series_cell.specs.inner.CellParts.{IsCell}
use Rattle.series_cell.specs.Spans.{span_of, hull_of, joined_spans}
use Rattle.series_cell.specs.declared.batch_span.BatchSpan.{BatchSpan}
use Rattle.series_cell.proofs.Sizes.{sized}
use Rattle.series_cell.proofs.Standing.{end_is, home_own, none_away, home_spans}

pub spans_hull : (qs : List Accepted) → hull_of (map span_of qs) ≡ hull qs
spans_hull [] = refl
spans_hull (a ∷ qs) = ap (λ o. Some (joined_to a.point.span o)) (spans_hull qs)

pub hull_at_home : (c : CellView) (qs : List Accepted) (h : Stands c qs) → home_hull c ≡ hull h.home
hull_at_home c qs h = ap hull_of (home_spans c qs h) ∙ spans_hull h.home

-- a hull of points is an interval, and there is none only of no points
hull_is_interval : (s : List ℕ) (x : Identity) (qs : List Accepted) → AllOwn s x qs
    → (span : Interval) → hull qs ≡ Some span → IsInterval span
hull_is_interval s x [] h span e = absurd (none-some span e)
hull_is_interval s x (a ∷ qs) h span e =
    subst IsInterval (same_Some (joined_to a.point.span (hull qs)) span e)
    (joined_is a.point.span (hull qs) h.0.span (λ q f. hull_is_interval s x qs h.1 q f))

-- an end is after the first moment, and below 2^64
ends_below : (s : List ℕ) (x : Identity) (qs : List Accepted) → AllOwn s x qs
    → greatest_end qs < 2 ^ 64
ends_below s x [] h = omega arith
ends_below s x (a ∷ qs) h = omega (arith, h.0.span.fits, ends_below s x qs h.1)

ends_late : (s : List ℕ) (x : Identity) (qs : List Accepted) → AllOwn s x qs → 0 < greatest_end qs
    → 1 < greatest_end qs
ends_late s x [] h l = absurd (omega (arith, l))
ends_late s x (a ∷ qs) h l =
    omega (arith, starts a.point.span h.0.span, ends_after a.point.span h.0.span)

-- what is carried, whether or not something is at home
record Carries (c : CellView) (s : OpenedSeries) (o : Option Interval) : Type 0 where
  pub own : AllOwn c.owner c.id (carried_of s o)
  pub ordered : InOrder (carried_of s o)
  pub are_home : list_all (stands is_home) (carried_of s o) ≡ true
  pub row : row_sum (row_length c.id.kind) (carried_of s o) ≡ c.stored
  pub spans : map span_of (carried_of s o) ≡ joined_spans o

carries : (c : CellView) (qs : List Accepted) (s : OpenedSeries) → Stands c qs → HandsOn c s
    → (o : Option Interval) → home_hull c ≡ o → Carries c s o
carries c qs s h t None e = record {
  own = tt;
  ordered = tt;
  are_home = refl;
  row = sym (h.stored ∙ no_hull (row_length c.id.kind) h.home (sym (hull_at_home c qs h) ∙ e));
  spans = refl;
}
carries c qs s h t (Some span) e = record {
  own = (
    record {
      series = t.series;
      sender = t.owner;
      span =
          hull_is_interval c.owner c.id h.home (home_own c qs h) span
          (sym (hull_at_home c qs h) ∙ e);
      long = ap length t.home ∙ (sized c qs h).stored;
    },
    tt,
  );
  ordered = (refl, tt);
  are_home = refl;
  row =
      add_rows-comm s.home (zeros (row_length c.id.kind))
      ∙ (add_rows-zeros (row_length c.id.kind) s.home
      (omega (arith, ap length t.home, (sized c qs h).stored)) ∙ t.home);
  spans = refl;
}

zeros_first : (m n : ℕ) (row : List ℕ) → m ≡ n → n ≡ length row → add_rows (zeros m) row ≡ row
zeros_first m n row e l = add_rows-zeros m row (omega arith)

pub stands_carried : (c : CellView) (qs : List Accepted) (s : OpenedSeries)
    (accepted acknowledged dropped : List ℕ) (spans : List BatchSpan) (last spare : ℕ) → Stands c qs
    → c.cut ≡ 0 → 0 < end_of c → HandsOn c s → accepted ≡ c.stored
    → acknowledged ≡ zeros (row_length c.id.kind) → dropped ≡ zeros (row_length c.id.kind)
    → spans ≡ joined_spans (home_hull c) → last ≡ end_of c
    → Stands (record c {
      accepted = accepted;
      acknowledged = acknowledged;
      dropped =
          dropped;
      spans = spans;
      landed = last;
      spare = spare;
    }) (opened_with s)
stands_carried c qs s accepted acknowledged dropped spans last spare h none some t ea ek ed em el =
    let n = row_length c.id.kind in
    let m : row_length s.series.kind ≡ n = ap (λ (x : Identity). row_length x.kind) t.series in
    let z = sized c qs h in
    let k = carries c qs s h t s.home_span (sym t.home_span) in
    let late = ends_late c.owner c.id qs h.own (omega (arith, some, end_is c qs h)) in
    let below = ends_below c.owner c.id qs h.own in
    let zero_row : add_rows (zeros (row_length s.series.kind)) (zeros n) ≡ zeros n =
    zeros_first (row_length s.series.kind) n (zeros n) m (sym (length-zeros n)) in
    record {
      gone = mark s ∷ [];
      away = [];
      home = carried_of s s.home_span;
      parts = refl;
      are_gone = refl;
      are_away = refl;
      are_home = k.are_home;
      own = (
        record {
          series = t.series;
          sender = t.owner;
          span = interval_is (up_to_frontier s) (omega arith)
              (omega (arith, t.frontier, end_is c qs h, late))
              (omega (arith, t.frontier, end_is c qs h, below));
          long = length-zeros (row_length s.series.kind) ∙ m;
        },
        k.own,
      );
      ordered = k.ordered;
      accepted = ea ∙ (sym (zeros_first (row_length s.series.kind) n c.stored m (sym z.stored))
          ∙ ap (add_rows (zeros (row_length s.series.kind))) (sym k.row));
      stored = sym k.row;
      in_flight = h.in_flight ∙ ap (row_sum n) (none_away c qs h none);
      acknowledged = ek ∙ sym zero_row;
      dropped = ed;
      spans = em ∙ (ap joined_spans (sym t.home_span) ∙ sym k.spans);
      cut = none;
      landed = omega (arith, el, t.frontier);
    }

-- what a cell hands on
pub handed : CellView → OpenedSeries
handed c = record {
  series = c.id;
  owner = c.owner;
  frontier = end_of c;
  home =
      c.stored;
  home_span = home_hull c;
  acknowledged = [];
  dropped = [];
}

pub hands_on : (c : CellView) → HandsOn c (handed c)
unfolding handed
hands_on c = record { series = refl; owner = refl; frontier = refl; home = refl; home_span = refl }

-- a cell that stands for no point

no_parts : (gone away home : List Accepted) → [] ≡ gone ++ (away ++ home)
    → (away ≡ []) × (home ≡ [])
no_parts [] [] home e = (refl, sym e)
no_parts [] (a ∷ away) home e = cc
no_parts (a ∷ gone) away home e = cc

no_points : (s : List ℕ) (x : Identity) (qs : List Accepted) → AllOwn s x qs → greatest_end qs ≡ 0
    → qs ≡ []
no_points s x [] h e = refl
no_points s x (a ∷ qs) h e = absurd (omega (arith, e, ends_after a.point.span h.0.span))

pub stands_for_none : (c : CellView) (accepted acknowledged dropped : List ℕ)
    (spans : List BatchSpan) (last spare : ℕ) → Stands c [] → c.cut ≡ 0 → accepted ≡ c.stored
    → acknowledged ≡ zeros (row_length c.id.kind) → dropped ≡ zeros (row_length c.id.kind)
    → spans ≡ joined_spans (home_hull c) → last ≡ end_of c
    → Stands (record c {
      accepted = accepted;
      acknowledged = acknowledged;
      dropped =
          dropped;
      spans = spans;
      landed = last;
      spare = spare;
    }) []
stands_for_none c accepted acknowledged dropped spans last spare h none ea ek ed em el =
    let n = row_length c.id.kind in
    let p = no_parts h.gone h.away h.home h.parts in
    record {
      gone = [];
      away = [];
      home = [];
      parts = refl;
      are_gone = refl;
      are_away = refl;
      are_home = refl;
      own = tt;
      ordered = tt;
      accepted = ea ∙ (h.stored ∙ ap (row_sum n) p.1);
      stored = h.stored ∙ ap (row_sum n) p.1;
      in_flight = h.in_flight ∙ ap (row_sum n) p.0;
      acknowledged = ek;
      dropped = ed;
      spans = em ∙ ap joined_spans (hull_at_home c [] h ∙ ap hull p.1);
      cut = none;
      landed = el ∙ end_is c [] h;
    }

-- what a cell carries is a cell
pub cell_carried : (c : CellView) (qs : List Accepted) (accepted acknowledged dropped : List ℕ)
    (spans : List BatchSpan) (last spare : ℕ) → Stands c qs → c.cut ≡ 0 → accepted ≡ c.stored
    → acknowledged ≡ zeros (row_length c.id.kind) → dropped ≡ zeros (row_length c.id.kind)
    → spans ≡ joined_spans (home_hull c) → last ≡ end_of c
    → IsCell (record c {
      accepted = accepted;
      acknowledged = acknowledged;
      dropped =
          dropped;
      spans = spans;
      landed = last;
      spare = spare;
    })
cell_carried c qs accepted acknowledged dropped spans last spare h none ea ek ed em el =
    by (end_of c) refl
  where
    by : (n : ℕ) → end_of c ≡ n → IsCell
        (record c {
          accepted = accepted;
          acknowledged = acknowledged;
          dropped = dropped;
          spans =
              spans;
          landed = last;
          spare = spare;
        })
    by zero e = (
      [],
      stands_for_none c accepted acknowledged dropped spans last spare
          (subst (Stands c) (no_points c.owner c.id qs h.own (sym (end_is c qs h) ∙ e)) h) none ea
          ek
          ed em el,
    )
    by (suc n) e = (
      opened_with (handed c),
      stands_carried c qs (handed c) accepted acknowledged
          dropped spans last spare h none (omega (arith, e)) (hands_on c) ea ek ed em el,
    )
