-- A book that keeps cells, after one more entry.
use Rattle.std.proofs.Common.{◌≡◌, ℕ, ◌+◌, ◌≤◌, Bool, true, false, List, [], ◌∷◌, ◌++◌, map, filter}
use Rattle.std.proofs.Common.{length, take, drop, refl, ap, sym, ◌∙◌, subst, arith, inl, inr, Some}
use Rattle.std.proofs.Common.{None, ◌⊎◌}
use Rattle.std.specs.List.{list_any, list_all}
use Rattle.metric_events.specs.History.{History, ◌▸◌, entries, opening}
use Rattle.metric_events.specs.Points.{points, points_after, landed, is_flying, is_in_flight}
use Rattle.metric_events.specs.Running.{open_batches, live_flushes, held_senders, open_after}
use Rattle.metric_events.specs.Running.{live_after, held_after}
use Rattle.metric_events.specs.Series.{is_of, of_series}
use Rattle.metric_events.specs.Standing.{stands}
use Rattle.metric_events.specs.Legal.{Allowed, are_distinct, is_live}
use Rattle.metric_events.specs.Choice.{is_cargo}
use Rattle.series_id.specs.Identity.{Identity}
use Rattle.metric_events.specs.declared.place.Place.{Place}
use Rattle.metric_events.specs.declared.place.Place.TheVariants.{Home, InFlight, Acknowledged}
use Rattle.metric_events.specs.declared.place.Place.TheVariants.{Dropped}
use Rattle.metric_events.specs.declared.event.Event.{Event}
use Rattle.metric_events.specs.declared.event.Event.TheVariants.{Settle, Drop, GiveBack}
use Rattle.metric_events.specs.declared.limits.TheConstants.{MAX_ENTRIES, MAX_OPEN, MAX_LIVE}
use Rattle.metric_events.specs.declared.accepted.Accepted.{Accepted}
use Rattle.metric_events.specs.declared.flight.Flight.{Flight}
use Rattle.metric_events.specs.declared.entry.Entry.{Entry}
use Rattle.metric_events.proofs.Invariants.{all_ride}
use Rattle.metric_events.proofs.Lists.{all_weaker}
use Rattle.std.proofs.lemmas.Bool.{and_parts, or_cases, or_left, or_right}
use Rattle.series_cell.specs.Cells.{CellView}
use Rattle.delta_book.specs.Journal.{Journal, appended, history, admits, takes, IsNumbered}
use Rattle.delta_book.specs.declared.book.Book.TheInside.{Inside}
use Rattle.delta_book.specs.declared.opening.TheConstants.{LAST_ROUND}
use Rattle.delta_book.specs.inner.Stored.{IsStored, journal_in, history_in}
use Rattle.std.specs.Prelude.{vec_capacity}
use Rattle.metric_events.specs.Opening.{IsOpening}
use Rattle.metric_events.specs.declared.opening.Opening.{Opening}
use Rattle.metric_events.proofs.Room.{kept_room}
use Rattle.metric_events.proofs.Numbers.{admits-le, takes-le}
use Rattle.metric_events.proofs.Closing.{opening_is}
use Rattle.delta_book.specs.inner.Ready.{is_ready}
use Rattle.delta_book.specs.Tables.{AreCells, AreBooked}
use Rattle.delta_book.specs.inner.Tables.{AreOpen, AreFlights, are_full, is_full, series_named}
use Rattle.delta_book.specs.inner.Tables.{EndsFlush, entry_of, on_series, is_other_open}
use Rattle.delta_book.specs.declared.open.JournalRef.{JournalRef}
use Rattle.delta_book.proofs.Journaled.{after_push, legal_push, entries-history, opening-history}
use Rattle.delta_book.proofs.Opened.{open_length, open_more, open_closed}
use Rattle.metric_events.specs.Running.{owed}
use Rattle.delta_book.proofs.Tables.{landed-on}
use Rattle.delta_book.proofs.Entries.{take_in, taken_distinct, rides_in, flight_at, named_at}
use Rattle.delta_book.proofs.Entries.{flights_length, flights_more, flights_closed, no_flight}
use Rattle.metric_events.specs.Running.{is_other_flight, is_another}
use Rattle.series_cell.proofs.ByPlace.{written_back}
use Rattle.delta_book.proofs.Choosing.{AreTied, tied}

-- one more entry, and what it does to what is kept
pub stored_push : (b b' : Inside) (x : Entry) → IsStored b → Allowed (history_in b) x.event
    → IsNumbered (history_in b ▸ x.event)
    → AreCells b'.cells.items (points_after x.event (points (history_in b)))
    → AreOpen b'.entries.items b'.opened.items
    (open_after x.event (open_batches (history_in b)))
    → AreFlights b'.entries.items b'.live.items
    (live_after x.event (live_flushes (history_in b)))
    → are_full (points_after x.event (points (history_in b)))
    (live_after x.event (live_flushes (history_in b))) ≡ true
    → b'.held.items ≡ held_after x.event b.held.items
    → journal_in b' ≡ appended (journal_in b) x
    → MAX_OPEN ≤ vec_capacity b'.opened
    → MAX_LIVE ≤ vec_capacity b'.live
    → MAX_ENTRIES ≤ vec_capacity b'.entries
    → b'.batches ≡ admits
    (history_in b ▸ x.event)
    → b'.flushes ≡ takes
    (history_in b ▸ x.event)
    → list_any
    (is_ready b'.held.items)
    (take b'.passed
    b'.cells.items)
    ≡ false
    → IsStored b'
stored_push b b' x h allowed numbered cells opened live full held ex open_room live_room room ea et
    passed =
    let e = after_push (journal_in b) (journal_in b') x ex in
    record {
      legal = legal_push (journal_in b) (journal_in b') x ex h.legal allowed;
      numbered = subst IsNumbered (sym e) numbered;
      cells = subst (λ E. AreCells b'.cells.items (points E)) (sym e) cells;
      opened =
          subst (λ E. AreOpen b'.entries.items b'.opened.items (open_batches E)) (sym e) opened;
      live = subst (λ E. AreFlights b'.entries.items b'.live.items (live_flushes E)) (sym e) live;
      full = subst (λ E. are_full (points E) (live_flushes E) ≡ true) (sym e) full;
      held_are = held ∙ (ap (held_after x.event) h.held_are ∙ ap held_senders (sym e));
      admitted_are = ea ∙ ap admits (sym e);
      taken_are = et ∙ ap takes (sym e);
      passed_over = passed;
      round = subst (λ (j : Journal). j.opening.round ≤ LAST_ROUND) (sym ex) h.round;
      room = room;
      open_room = open_room;
      live_room = live_room;
    }

pub booked_cells : (b : Inside) → IsStored b → AreBooked b.cells.items
booked_cells b h = (history_in b, (h.legal, h.cells))

-- what a live flush took flies still, and the landing of its series is the end of the flush

pub record Landing (cs : List CellView) (E : History) (f : ℕ) (series : List Identity) : Type 0
  where
    pub live : is_live f (live_flushes E) ≡ true
    pub distinct : are_distinct series ≡ true
    pub flying : list_all (λ x. list_any (stands (is_in_flight f)) (of_series x (points E))) series
        ≡ true
    pub whole : (q : Place)
        → map (on_series (landed f q) series) (points E) ≡ map (landed f q) (points E)

cargo_flies : (f : ℕ) (x : Identity) (qs : List Accepted) → list_any (is_cargo f x) qs ≡ true
    → list_any (stands (is_in_flight f)) (of_series x qs) ≡ true
cargo_flies f x [] h = h
cargo_flies f x (a ∷ qs) h = both (is_of x a) refl
    (or_cases (is_cargo f x a) (list_any (is_cargo f x) qs) h) (cargo_flies f x qs)
  where
    both : (v : Bool) → is_of x a ≡ v
        → (is_cargo f x a ≡ true) ⊎ (list_any (is_cargo f x) qs ≡ true)
        → (list_any (is_cargo f x) qs ≡ true
        → list_any (stands (is_in_flight f)) (of_series x qs) ≡ true)
        → list_any (stands (is_in_flight f)) (of_series x (a ∷ qs)) ≡ true
    both true e c r = rw e (elim c [
      | inl m ↦
          or_left (is_in_flight f a.place) (list_any (stands (is_in_flight f)) (of_series x qs))
          (and_parts (is_in_flight f a.place) (is_of x a) m).0
      | inr m ↦ or_right (is_in_flight f a.place)
          (list_any (stands (is_in_flight f)) (of_series x qs)) (r m)
    ])
    both false e c r = rw e (elim c [
      | inl m ↦
          absurd (let q : true ≡ false =
          sym (and_parts (is_in_flight f a.place) (is_of x a) m).1 ∙ e in cc)
      | inr m ↦ r m
    ])

pub landing : (b : Inside) (es : List Entry) (f i : ℕ) (ds : List JournalRef) → IsStored b
    → ds ≡ b.live.items → es ≡ b.entries.items → entry_of f ds ≡ Some i
    → Landing b.cells.items (history_in b) f (series_named es i)
landing b es f i ds h d s e =
    let xs = journal_in b in
    let l = flight_at b.entries.items b.live.items (live_flushes (history xs)) f i h.live
    (ap (entry_of f) (sym d) ∙ e) in
    let k = take_in xs i f l.flight.series l.here in
    let named : series_named es i ≡ l.flight.series =
    ap (λ ys. series_named ys i) s ∙ named_at b.entries.items i f l.flight.series l.here in
    subst (Landing b.cells.items (history xs) f) (sym named) (record {
      live = l.live;
      distinct = taken_distinct (history xs) f l.flight.series h.legal k;
      flying = all_weaker (λ x. list_any (is_cargo l.flight.number x) (points (history xs)))
          (λ x. list_any (stands (is_in_flight f)) (of_series x (points (history xs))))
          (λ x m. cargo_flies f x (points (history xs))
          (subst (λ n. list_any (is_cargo n x) (points (history xs)) ≡ true) l.number m))
          l.flight.series (l.one (is_full (points (history xs))) h.full);
      whole = λ q. landed-on f q l.flight.series (points (history xs))
          (rides_in (history xs) f l.flight.series h.legal k);
    })

pub tied_in : (b : Inside) → IsStored b
    → AreTied (points (history_in b)) (live_flushes (history_in b))
tied_in b h =
    tied (points (history_in b)) (live_flushes (history_in b)) (all_ride (history_in b)) h.full

-- what is owed, from what is kept
pub stored_owed : (b : Inside) → IsStored b
    → entries (history_in b) + owed (history_in b)
    ≡ length b.entries.items + length b.opened.items + length b.live.items + length b.held.items
stored_owed b h = omega (
  arith,
  entries-history (journal_in b),
  ap length h.held_are,
  open_length
      b.entries.items b.opened.items (open_batches (history_in b)) h.opened,
  flights_length
      b.entries.items b.live.items (live_flushes (history_in b)) h.live,
)

-- what a book keeps fits
pub record Sizes (b : Inside) : Type 0 where
  pub all : length b.entries.items + length b.opened.items + length b.live.items
      + length b.held.items ≤ MAX_ENTRIES
  pub admitted_few : b.batches ≤ 281474976710656
  pub taken_few : b.flushes ≤ 281474976710656

pub stored_sizes : (b : Inside) → IsStored b → Sizes b
stored_sizes b h = record {
  all = omega (arith, kept_room (history_in b) h.legal, stored_owed b h);
  admitted_few = omega (
    arith,
    admits-le (history_in b),
    kept_room (history_in b) h.legal,
    h.admitted_are,
    ok.few_batches,
    ap (λ (O : Opening). O.round)
        (opening-history (journal_in b)),
    h.round,
  );
  taken_few = omega (
    arith,
    takes-le (history_in b),
    kept_room (history_in b) h.legal,
    h.taken_are,
    ok.few_flushes,
    ap (λ (O : Opening). O.round) (opening-history (journal_in b)),
    h.round,
  );
}
  where
    ok : IsOpening (opening (history_in b))
    ok = opening_is (history_in b) h.legal

pub landed_cells : (cs ds new : List CellView) (E : History) (f : ℕ) (q : Place)
    (named series : List Identity) (len : ℕ) → AreCells cs (points E) → ds ≡ cs → series ≡ named
    → Landing cs E f named → is_flying q ≡ false
    → ((g : ℕ) (qs : List Accepted) → AreCells ds qs → are_distinct series ≡ true
    → list_all (λ x. list_any (stands (is_in_flight g)) (of_series x qs)) series ≡ true
    → is_flying q ≡ false → AreCells new (map (on_series (landed g q) series) qs))
    → length new ≡ length ds → len ≡ length cs
    → AreCells (take len (new ++ drop (length new) cs))
    (map (landed f q) (points E))
landed_cells cs ds new E f q named series len h d s l p k n m =
    let l2 : Landing cs E f series = subst (Landing cs E f) (sym s) l in
    subst (λ ks. AreCells ks (map (landed f q) (points E)))
    (sym (written_back cs new len (n ∙ ap length d) m))
    (subst (AreCells new) (l2.whole q)
    (k f (points E) (subst (λ ks. AreCells ks (points E)) (sym d) h) l2.distinct l2.flying p))

pub not_live : (os ds : List JournalRef) (es : List Entry) (ls : List Flight) (f : ℕ)
    → AreFlights es os ls → ds ≡ os → None ≡ entry_of f ds → is_live f ls ≡ false
not_live os ds es ls f h d e = no_flight es os ls f h (ap (entry_of f) (sym d) ∙ sym e)

-- what a flush was, closed
pub flights_after : (xs ys : List Entry) (x : Entry) (os os' : List JournalRef) (ls : List Flight)
    (f : ℕ) → AreFlights xs os ls → ys ≡ xs ++ x ∷ [] → os' ≡ filter (is_other_open f) os
    → AreFlights ys os' (filter (is_other_flight f) ls)
flights_after xs ys x os os' ls f h e o =
    subst (λ zs. AreFlights zs os' (filter (is_other_flight f) ls)) (sym e)
    (subst (λ ps. AreFlights (xs ++ x ∷ []) ps (filter (is_other_flight f) ls)) (sym o)
    (flights_closed (xs ++ x ∷ []) os ls f (flights_more xs (x ∷ []) os ls h)))

pub open_after_push : (xs ys : List Entry) (x : Entry) (os : List JournalRef) (bs : List ℕ)
    → AreOpen xs os bs → ys ≡ xs ++ x ∷ [] → AreOpen ys os bs
open_after_push xs ys x os bs h e =
    subst (λ zs. AreOpen zs os bs) (sym e) (open_more xs (x ∷ []) os bs h)

pub flights_after_push : (xs ys : List Entry) (x : Entry) (os : List JournalRef) (ls : List Flight)
    → AreFlights xs os ls → ys ≡ xs ++ x ∷ [] → AreFlights ys os ls
flights_after_push xs ys x os ls h e =
    subst (λ zs. AreFlights zs os ls) (sym e) (flights_more xs (x ∷ []) os ls h)

pub opened_after : (xs ys : List Entry) (x : Entry) (os os' : List JournalRef) (bs : List ℕ) (b : ℕ)
    → AreOpen xs os bs → ys ≡ xs ++ x ∷ [] → os' ≡ filter (is_other_open b) os
    → AreOpen ys os' (filter (is_another b) bs)
opened_after xs ys x os os' bs b h e o =
    subst (λ zs. AreOpen zs os' (filter (is_another b) bs)) (sym e)
    (subst (λ ps. AreOpen (xs ++ x ∷ []) ps (filter (is_another b) bs)) (sym o)
    (open_closed (xs ++ x ∷ []) os bs b (open_more xs (x ∷ []) os bs h)))

-- a flush that is live may end so
pub may_end : (E : History) (f : ℕ) (q : Place) (e : Event) → EndsFlush f q e
    → is_live f (live_flushes E) ≡ true → Allowed E e
may_end E f (InFlight g) e k l = absurd k
may_end E f q e k l = subst (Allowed E) (sym k) l

pub not_flying : (f : ℕ) (q : Place) (e : Event) → EndsFlush f q e → is_flying q ≡ false
not_flying f (InFlight g) e k = absurd k
not_flying f q e k = refl

-- a flush has ended
pub stored_end : (b b' : Inside) (f : ℕ) (q : Place) (x : Entry) → EndsFlush f q x.event
    → IsStored b → is_live f (live_flushes (history_in b)) ≡ true
    → AreCells b'.cells.items (map (landed f q) (points (history_in b)))
    → AreOpen b'.entries.items b'.opened.items (open_batches (history_in b))
    → AreFlights b'.entries.items b'.live.items
    (filter (is_other_flight f) (live_flushes (history_in b)))
    → are_full (map (landed f q) (points (history_in b)))
    (filter (is_other_flight f) (live_flushes (history_in b))) ≡ true
    → b'.held.items ≡ b.held.items
    → journal_in b' ≡ appended (journal_in b) x
    → MAX_OPEN ≤ vec_capacity b'.opened
    → MAX_LIVE ≤ vec_capacity b'.live
    → MAX_ENTRIES ≤ vec_capacity b'.entries
    → b'.batches ≡ b.batches
    → b'.flushes ≡ b.flushes
    → list_any (is_ready b'.held.items)
    (take b'.passed b'.cells.items)
    ≡ false → IsStored b'
stored_end b b' f q x k h l cells opened live full held ex open_room live_room room eb ef passed =
    ends q k cells full
  where
    named : (e : Event) → x.event ≡ e
        → journal_in b' ≡ appended (journal_in b) (record { seat = x.seat; event = e })
    named e k = ex ∙ ap (λ v. appended (journal_in b) (record { seat = x.seat; event = v })) k

    ends : (q : Place) → EndsFlush f q x.event
        → AreCells b'.cells.items (map (landed f q) (points (history_in b)))
        → are_full (map (landed f q) (points (history_in b)))
        (filter (is_other_flight f) (live_flushes (history_in b))) ≡ true → IsStored b'
    ends Acknowledged k cells full = stored_push b b' (record { seat = x.seat; event = Settle f }) h
        l h.numbered cells opened live full held (named (Settle f) k) open_room live_room room
        (eb ∙ h.admitted_are) (ef ∙ h.taken_are) passed
    ends Dropped k cells full = stored_push b b' (record { seat = x.seat; event = Drop f }) h l
        h.numbered cells opened live full held (named (Drop f) k) open_room live_room room
        (eb ∙ h.admitted_are) (ef ∙ h.taken_are) passed
    ends Home k cells full = stored_push b b' (record { seat = x.seat; event = GiveBack f }) h l
        h.numbered cells opened live full held (named (GiveBack f) k) open_room live_room room
        (eb ∙ h.admitted_are) (ef ∙ h.taken_are) passed
    ends (InFlight g) k cells full = absurd k
