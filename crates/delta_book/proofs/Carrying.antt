-- The cells go from one round to the next.
use Rattle.std.proofs.Common.{◌≡◌, ℕ, ◌<◌, ◌≤◌, Bool, true, false, not, ◌==◌, List, [], ◌∷◌, ◌++◌}
use Rattle.std.proofs.Common.{map, set, get_or, length, take, drop, refl, ap, sym, ◌∙◌, subst}
use Rattle.std.proofs.Common.{arith, zero, suc, None}
use Rattle.std.specs.Prelude.{nat_lt}
use Rattle.std.specs.List.{list_any}
use Rattle.std.proofs.lemmas.Bool.{or_left, or_right, ltb-false}
use Rattle.std.proofs.lemmas.List.{append-nil}
use Rattle.series_id.specs.Identity.{Identity}
use Rattle.series_id.specs.Order.{same_series}
use Rattle.series_id.proofs.Order.{same_series-refl}
use Rattle.metric_events.specs.Opening.{IsOpening, series_of}
use Rattle.metric_events.specs.declared.opening.Opening.{Opening}
use Rattle.metric_events.specs.declared.opened_series.OpenedSeries.{OpenedSeries}
use Rattle.metric_events.specs.History.{opening, Opened}
use Rattle.metric_events.specs.Points.{points, mark, carried, carried_of, opened_points, is_among}
use Rattle.metric_events.specs.Points.{is_flying}
use Rattle.metric_events.specs.Running.{held_senders, open_batches, live_flushes}
use Rattle.metric_events.specs.Series.{of_series, is_ascending}
use Rattle.metric_events.specs.Legal.{is_in_live}
use Rattle.metric_events.specs.Standing.{stands, series_standing, all_series}
use Rattle.metric_events.specs.Close.{handed_on, close}
use Rattle.metric_events.specs.declared.accepted.Accepted.{Accepted}
use Rattle.metric_events.specs.declared.flight.Flight.{Flight}
use Rattle.metric_events.specs.declared.entry.Entry.{Entry}
use Rattle.metric_events.specs.declared.limits.TheConstants.{MAX_ENTRIES, MAX_OPEN, MAX_LIVE}
use Rattle.metric_events.proofs.Opened.{entries_of, opened_of}
use Rattle.metric_events.proofs.Renewing.{Alone, alone, opened_in_order}
use Rattle.metric_events.proofs.Closing.{home_row}
use Rattle.series_cell.specs.Cells.{CellView, Stands, HandsOn, end_of, opened_with}
use Rattle.series_cell.proofs.Reading.{tells}
use Rattle.delta_book.specs.Carries.{Carries, AllCarry, AllHandOn, BeginsWith, AllOpened}
use Rattle.delta_book.specs.inner.Ready.{is_ready}
use Rattle.delta_book.specs.Tables.{AreCells, AllStand, id_of}
use Rattle.delta_book.specs.inner.Tables.{HasPoint, AreOpen, AreFlights}
use Rattle.delta_book.specs.declared.book.Book.TheInside.{Inside}
use Rattle.delta_book.specs.inner.Stored.{IsStored, journal_in, history_in}
use Rattle.metric_events.specs.Legal.{IsLegal}
use Rattle.std.specs.Prelude.{vec_capacity}
use Rattle.delta_book.specs.inner.Tables.{are_full}
use Rattle.delta_book.specs.Rounds.{round_refusal}
use Rattle.delta_book.specs.Journal.{Journal, journal_of, history, admits, takes, IsNumbered}
use Rattle.delta_book.specs.declared.open.JournalRef.{JournalRef}
use Rattle.series_cell.proofs.ByPlace.{written_back}
use Rattle.delta_book.proofs.Choosing.{AreTied}
use Rattle.delta_book.proofs.Closes.{may_close, next_opened}
use Rattle.delta_book.proofs.Sweeping.{is_some_cell, empty_cell, none_of_empty}
use Rattle.delta_book.proofs.CellTotals.{owner_is, frontier_of, has_points}

-- cell by cell

-- what the first so many cells became, the others being as they were
abbrev pub CarriedAs : CellView → CellView → Type 0
CarriedAs c d = (s : OpenedSeries) → HandsOn c s → BeginsWith d s

abbrev pub AreCarried : ℕ → List CellView → List CellView → Type 0
AreCarried zero cs ds = ds ≡ cs
AreCarried (suc i) [] [] = Unit {0}
AreCarried (suc i) [] (d ∷ ds) = ⊥
AreCarried (suc i) (c ∷ cs) [] = ⊥
AreCarried (suc i) (c ∷ cs) (d ∷ ds) = CarriedAs c d × AreCarried i cs ds

pub length_carried : (i : ℕ) (cs ds : List CellView) → AreCarried i cs ds → length ds ≡ length cs
length_carried zero cs ds h = ap length h
length_carried (suc i) [] [] h = refl
length_carried (suc i) (c ∷ cs) (d ∷ ds) h = omega (arith, length_carried i cs ds h.1)
length_carried (suc i) cs ds h = absurd h

pub carried_more : (i : ℕ) (cs ds : List CellView) (c d : CellView) → AreCarried i cs ds
    → i < length ds → c ≡ get_or ds i c → CarriedAs c d → AreCarried (suc i) cs (set ds i d)
carried_more zero [] ds c d h l e k = absurd (omega (arith, l, ap length h))
carried_more zero (x ∷ cs) (y ∷ ds) c d h l e k =
    let first : c ≡ x = e ∙ ap (λ zs. get_or zs 0 c) h in
    (subst (λ w. CarriedAs w d) first k, ap (drop 1) h)
carried_more (suc i) [] (y ∷ ds) c d h l e k = absurd h
carried_more (suc i) (x ∷ cs) [] c d h l e k = absurd h
carried_more (suc i) (x ∷ cs) (y ∷ ds) c d h l e k =
    (h.0, carried_more i cs ds c d h.1 (omega (arith, l)) e k)
carried_more i cs [] c d h l e k = absurd (omega (arith, l))

pub carries_at : (i : ℕ) (cs ds : List CellView) (c : CellView) → AllCarry cs → AreCarried i cs ds
    → i < length ds → c ≡ get_or ds i c → Carries c
carries_at zero [] ds c a h l e = absurd (omega (arith, l, ap length h))
carries_at zero (x ∷ cs) ds c a h l e = subst Carries (sym (e ∙ ap (λ zs. get_or zs 0 c) h)) a.0
carries_at (suc i) [] [] c a h l e = absurd (omega (arith, l))
carries_at (suc i) (x ∷ cs) (y ∷ ds) c a h l e = carries_at i cs ds c a.1 h.1 (omega (arith, l)) e
carries_at (suc i) cs ds c a h l e = absurd h

pub carried_all : (i : ℕ) (cs ds : List CellView) (ss : List OpenedSeries) → AreCarried i cs ds
    → length ds ≤ i → AllHandOn cs ss → AllOpened ds ss
carried_all zero [] [] [] h l k = tt
carried_all zero [] (d ∷ ds) ss h l k = absurd (omega (arith, l))
carried_all zero (c ∷ cs) [] ss h l k = absurd (omega (arith, ap length h))
carried_all zero (c ∷ cs) (d ∷ ds) ss h l k = absurd (omega (arith, l))
carried_all (suc i) [] [] [] h l k = tt
carried_all (suc i) [] (d ∷ ds) ss h l k = absurd h
carried_all (suc i) (c ∷ cs) [] ss h l k = absurd h
carried_all (suc i) (c ∷ cs) (d ∷ ds) (s ∷ ss) h l k =
    (h.0 s k.0, carried_all i cs ds ss h.1 (omega (arith, l)) k.1)
carried_all i cs ds ss h l k = absurd k

-- what may be carried

not_above : (n : ℕ) → nat_lt 0 n ≡ false → n ≡ 0
not_above n h = omega (arith, ltb-false 0 n h)

above : (i : ℕ) → not (i == 0) ≡ true → 0 < i
above zero g = absurd (let q : false ≡ true = g in cc)
above (suc i) g = omega arith

carries_one : (c : CellView) (qs : List Accepted) → Stands c (of_series c.id qs) → HasPoint c.id qs
    → list_any (stands is_flying) (of_series c.id qs) ≡ false → Carries c
carries_one c qs h m n = record {
  nothing = not_above c.cut ((tells c (of_series c.id qs) h).flying ∙ n);
  some = by (is_some_cell c) refl;
}
  where
    by : (v : Bool) → is_some_cell c ≡ v → 0 < end_of c
    by true e = above (end_of c) e
    by false e = absurd (let q : true ≡ false =
        sym m ∙ none_of_empty c.id qs (empty_cell c (of_series c.id qs) h e) in cc)

carries_each : (cs : List CellView) (qs : List Accepted) → AllStand cs qs
    → ((x : Identity) → is_among x (map id_of cs) ≡ true → HasPoint x qs)
    → ((x : Identity) → list_any (stands is_flying) (of_series x qs) ≡ false) → AllCarry cs
carries_each [] qs h k n = tt
carries_each (c ∷ cs) qs h k n = (
  carries_one c qs h.0 (k c.id (or_left (same_series c.id c.id) (is_among c.id (map id_of cs))
      (same_series-refl c.id))) (n c.id),
  carries_each cs qs h.1 (λ x m. k x (or_right (same_series x c.id) (is_among x (map id_of cs)) m))
      n,
)

pub may_carry : (cs ds : List CellView) (qs : List Accepted) (live : List Flight) → AreCells cs qs
    → AreTied qs live → live ≡ [] → ds ≡ cs → AllCarry ds
may_carry cs ds qs live h t none d =
    subst AllCarry (sym d) (carries_each cs qs h.stand (has_points cs qs h)
    (λ x. sym (subst (λ ls. is_in_live ls x ≡ list_any (stands is_flying) (of_series x qs)) none
    (t.tied x))))

-- what is handed on

hands_one : (before : List OpenedSeries) (c : CellView) (qs : List Accepted) (held : List (List ℕ))
    → Stands c (of_series c.id qs) → HasPoint c.id qs
    → HandsOn c (handed_on before (series_standing qs held c.id))
hands_one before c qs held h m =
    let t = tells c (of_series c.id qs) h in
    record {
      series = refl;
      owner = owner_is c.owner c.id qs h.own m;
      frontier = sym (t.frontier ∙ frontier_of c.id qs);
      home = home_row c.id qs held ∙ sym t.stored;
      home_span = sym t.home_span;
    }

hands_each : (before : List OpenedSeries) (cs : List CellView) (qs : List Accepted)
    (held : List (List ℕ)) → AllStand cs qs
    → ((x : Identity) → is_among x (map id_of cs) ≡ true → HasPoint x qs)
    → AllHandOn cs (map (handed_on before) (map (series_standing qs held) (map id_of cs)))
hands_each before [] qs held h k = tt
hands_each before (c ∷ cs) qs held h k = (
  hands_one before c qs held h.0 (k c.id
      (or_left (same_series c.id c.id) (is_among c.id (map id_of cs)) (same_series-refl c.id))),
  hands_each before cs qs held h.1
      (λ x m. k x (or_right (same_series x c.id) (is_among x (map id_of cs)) m)),
)

hands_all : (before : List OpenedSeries) (cs : List CellView) (qs : List Accepted)
    (held : List (List ℕ)) → AreCells cs qs
    → AllHandOn cs (map (handed_on before) (all_series qs held))
hands_all before cs qs held h = subst
    (λ xs. AllHandOn cs (map (handed_on before) (map (series_standing qs held) xs))) h.ids
    (hands_each before cs qs held h.stand (has_points cs qs h))

-- what the next round begins with

ids_opened : (ds : List CellView) (ss : List OpenedSeries) → AllOpened ds ss
    → map id_of ds ≡ series_of ss
ids_opened [] [] h = refl
ids_opened (d ∷ ds) (s ∷ ss) h =
    ap (λ x. x ∷ map id_of ds) h.0.id ∙ ap (λ xs. s.series ∷ xs) (ids_opened ds ss h.1)
ids_opened ds ss h = absurd h

own_points : (s : OpenedSeries) (O : Opening) → entries_of s.series O.series ≡ s ∷ []
    → of_series s.series (opened_points O) ≡ opened_with s
own_points s O e =
    opened_of s.series O
    ∙ (ap (λ es. map mark es ++ carried es) e
    ∙ ap (λ rs. mark s ∷ rs) (append-nil (carried_of s s.home_span)))

stand_opened : (O : Opening) (ds : List CellView) (ss : List OpenedSeries) → AllOpened ds ss
    → Alone O.series ss → AllStand ds (opened_points O)
stand_opened O [] [] h a = tt
stand_opened O (d ∷ ds) (s ∷ ss) h a = (
  subst (Stands d) (sym (ap (λ x. of_series x (opened_points O)) h.0.id ∙ own_points s O a.0))
      h.0.stands,
  stand_opened O ds ss h.1 a.1,
)
stand_opened O ds ss h a = absurd h

opened_cells : (O : Opening) (ds : List CellView) → is_ascending (series_of O.series) ≡ true
    → AllOpened ds O.series → AreCells ds (opened_points O)
opened_cells O ds u h = record {
  ids = ids_opened ds O.series h ∙ sym (opened_in_order O u);
  stand = stand_opened O ds O.series h (alone O.series u);
}

pub carried_cells : (cs ds new : List CellView) (j : Journal) (O : Opening) (len : ℕ)
    → AreCells cs (points (history j)) → IsOpening O → O ≡ close (history j) → ds ≡ cs
    → ((ss : List OpenedSeries) → AllHandOn ds ss → AllOpened new ss) → length new ≡ length ds
    → len ≡ length cs → AreCells (take len (new ++ drop (length new) cs)) (opened_points O)
carried_cells cs ds new j O len h ok e d k n m =
    let E = history j in
    let hands : AllHandOn ds (close E).series =
    subst (λ ks. AllHandOn ks (close E).series) (sym d)
    (hands_all (opening E).series cs (points E) (held_senders E) h) in
    let opened : AllOpened new O.series =
    subst (λ (P : Opening). AllOpened new P.series) (sym e) (k (close E).series hands) in
    subst (λ ks. AreCells ks (opened_points O)) (sym (written_back cs new len (n ∙ ap length d) m))
    (opened_cells O new ok.ordered opened)

-- the book of the next round

open_none : (es fs : List Entry) (os : List JournalRef) → AreOpen es os [] → AreOpen fs os []
open_none es fs [] h = tt
open_none es fs (o ∷ os) h = absurd h

flights_none : (es fs : List Entry) (os : List JournalRef) → AreFlights es os []
    → AreFlights fs os []
flights_none es fs [] h = tt
flights_none es fs (o ∷ os) h = absurd h

pub next_stored : (b b' : Inside) → IsStored b → round_refusal (history_in b) ≡ None
    → b'.opening ≡ close (history_in b) → b'.entries.items ≡ []
    → AreCells b'.cells.items (opened_points b'.opening) → b'.opened.items ≡ b.opened.items
    → b'.live.items ≡ b.live.items → b'.held.items ≡ b.held.items → b'.batches ≡ b.batches
    → b'.flushes ≡ b.flushes → MAX_ENTRIES ≤ vec_capacity b'.entries
    → MAX_OPEN ≤ vec_capacity b'.opened → MAX_LIVE ≤ vec_capacity b'.live
    → list_any (is_ready b'.held.items) (take b'.passed b'.cells.items) ≡ false
    → IsStored b'
next_stored b b' h none e empty cells eo el eh eb ef room open_room live_room passed =
    let m = may_close (history_in b) none in
    let begun : history_in b' ≡ Opened b'.opening =
    ap (λ xs. history (journal_of b'.opening xs)) empty in
    record {
      legal = subst IsLegal (sym begun) (next_opened (journal_in b) b'.opening h.legal e);
      numbered = subst IsNumbered (sym begun) tt;
      cells = subst (λ E. AreCells b'.cells.items (points E)) (sym begun) cells;
      opened = subst (λ E. AreOpen b'.entries.items b'.opened.items (open_batches E)) (sym begun)
          (open_none b.entries.items b'.entries.items b'.opened.items
          (subst (AreOpen b.entries.items b'.opened.items) m.none_open
          (subst (λ os. AreOpen b.entries.items os (open_batches (history_in b))) (sym eo)
          h.opened)));
      live = subst (λ E. AreFlights b'.entries.items b'.live.items (live_flushes E)) (sym begun)
          (flights_none b.entries.items b'.entries.items b'.live.items
          (subst (AreFlights b.entries.items b'.live.items) m.none_live
          (subst (λ ls. AreFlights b.entries.items ls (live_flushes (history_in b)))
          (sym el) h.live)));
      full = subst (λ E. are_full (points E) (live_flushes E) ≡ true) (sym begun) refl;
      held_are =
          eh ∙ (h.held_are ∙ (sym (ap (λ (P : Opening). P.held) e) ∙ ap held_senders (sym begun)));
      admitted_are = eb
          ∙ (h.admitted_are ∙ (sym (ap (λ (P : Opening). P.batches) e) ∙ ap admits (sym begun)));
      taken_are =
          ef ∙ (h.taken_are ∙ (sym (ap (λ (P : Opening). P.flushes) e) ∙ ap takes (sym begun)));
      passed_over = passed;
      round = omega (arith, ap (λ (P : Opening). P.round) e, m.earlier);
      room = room;
      open_room = open_room;
      live_room = live_room;
    }
