-- A flush is taken from the cells.
use Rattle.std.proofs.Common.{◌≡◌, ◌≢◌, ℕ, ◌+◌, ◌<◌, ◌≤◌, Bool, true, false, not, ◌&&◌, ◌||◌, List}
use Rattle.std.proofs.Common.{[], ◌∷◌, ◌++◌, map, length, take, drop, refl, ap, sym, ◌∙◌, subst}
use Rattle.std.proofs.Common.{arith}
use Rattle.std.specs.List.{list_any, list_all}
use Rattle.std.proofs.lemmas.Bool.{and_from, or_left, or_right, leb-true}
use Rattle.series_id.specs.Identity.{Identity}
use Rattle.series_id.proofs.Order.{same_series-refl}
use Rattle.series_id.specs.Order.{same_series}
use Rattle.metric_events.specs.History.{entries}
use Rattle.metric_events.specs.Points.{points, taken, is_home}
use Rattle.metric_events.specs.Running.{live_flushes, owed}
use Rattle.metric_events.specs.Legal.{MayTake, is_in_live, is_held}
use Rattle.metric_events.specs.Choice.{is_eligible, first_eligible, pick}
use Rattle.metric_events.specs.declared.limits.TheConstants.{MAX_LIVE, MAX_ENTRIES}
use Rattle.metric_events.specs.declared.accepted.Accepted.{Accepted}
use Rattle.metric_events.specs.declared.flight.Flight.{Flight}
use Rattle.metric_events.specs.declared.entry.Entry.{Entry}
use Rattle.metric_events.specs.declared.event.Event.TheVariants.{Take}
use Rattle.series_cell.specs.Cells.{CellView, lifted}
use Rattle.delta_book.specs.Journal.{Journal, history, takes}
use Rattle.delta_book.specs.Refusals.{has_room}
use Rattle.delta_book.specs.declared.book.Book.TheInside.{Inside}
use Rattle.delta_book.specs.inner.Stored.{IsStored, journal_in, history_in}
use Rattle.delta_book.specs.Tables.{AreCells}
use Rattle.delta_book.specs.inner.Tables.{AreFlights, At, ForPoints, on_series}
use Rattle.delta_book.specs.inner.Ready.{is_ready, first_ready}
use Rattle.delta_book.specs.declared.open.JournalRef.{JournalRef}
use Rattle.series_cell.proofs.ByPlace.{written_back}
use Rattle.delta_book.proofs.Tables.{taken-on}
use Rattle.delta_book.proofs.Entries.{is_home_of, at_last, flights_push, flights_more}
use Rattle.delta_book.proofs.Choosing.{first_is, any_ready}
use Rattle.delta_book.proofs.Picking.{picked_all_of, nothing_picked, something_picked, may_take_now}
use Rattle.delta_book.proofs.Stored.{tied_in}

-- what is ready is what may be picked
pub picked_cells : (b : Inside) (n : ℕ) → IsStored b
    → first_ready b.held.items n b.cells.items
    ≡ first_eligible (points (history_in b)) (live_flushes (history_in b)) b.held.items n
picked_cells b n h = first_is b.cells.items (points (history_in b)) (live_flushes (history_in b))
    b.held.items n h.cells (tied_in b h)

pick_is : (b : Inside) (n : ℕ) → IsStored b
    → first_eligible (points (history_in b)) (live_flushes (history_in b)) b.held.items n
    ≡ pick (history_in b) n
pick_is b n h =
    ap (λ ks. first_eligible (points (history_in b)) (live_flushes (history_in b)) ks n) h.held_are

pub pick_cells : (b : Inside) (n : ℕ) → IsStored b
    → first_ready b.held.items n b.cells.items ≡ pick (history_in b) n
pick_cells b n h = picked_cells b n h ∙ pick_is b n h

eligible_any : (b : Inside) (ds : List CellView) (ks : List (List ℕ)) (r v : Bool) → IsStored b
    → r ≡ list_any (is_ready ks) ds → ds ≡ b.cells.items → ks ≡ b.held.items → r ≡ v
    → list_any (is_eligible (live_flushes (history_in b)) b.held.items) (points (history_in b))
    ≡ v
eligible_any b ds ks r v h e d k f =
    sym (any_ready b.cells.items (points (history_in b)) (live_flushes (history_in b)) b.held.items
    h.cells (tied_in b h))
    ∙ (sym (ap (λ js. list_any (is_ready js) b.cells.items) k)
    ∙ (sym (ap (list_any (is_ready ks)) d) ∙ (sym e ∙ f)))

pub none_ready : (b : Inside) (ds : List CellView) (ks : List (List ℕ)) (old : Journal) (n : ℕ)
    (r : Bool) → IsStored b → journal_in b ≡ old → r ≡ list_any (is_ready ks) ds
    → ds ≡ b.cells.items → ks ≡ b.held.items → r ≡ false → pick (history old) n ≡ []
none_ready b ds ks old n r h o e d k f =
    sym (ap (λ ys. pick (history ys) n) o) ∙ (sym (pick_is b n h)
    ∙ nothing_picked (points (history_in b)) (live_flushes (history_in b)) b.held.items n
    (eligible_any b ds ks r false h e d k f))

pub some_ready : (b : Inside) (ds : List CellView) (ks : List (List ℕ)) (old : Journal) (n : ℕ)
    (r : Bool) → IsStored b → journal_in b ≡ old → 1 ≤ n → r ≡ list_any (is_ready ks) ds
    → ds ≡ b.cells.items → ks ≡ b.held.items → r ≡ true → pick (history old) n ≢ []
some_ready b ds ks old n r h o m e d k f none =
    something_picked (points (history_in b)) (live_flushes (history_in b)) b.held.items n m
    (eligible_any b ds ks r true h e d k f)
    (pick_is b n h ∙ (ap (λ ys. pick (history ys) n) o ∙ none))

-- what is picked may be taken under the next number
pub may_take_book : (b : Inside) (old : Journal) (n : ℕ) (r : Bool) → IsStored b
    → journal_in b ≡ old → length (live_flushes (history_in b)) < MAX_LIVE
    → r ≡ has_room (history old) → r ≡ true
    → MayTake (history_in b) (b.flushes + 1)
    (first_eligible (points (history_in b)) (live_flushes (history_in b)) b.held.items
    n)
may_take_book b old n r h o few e f =
    let room : has_room (history_in b) ≡ true = ap (λ ys. has_room (history ys)) o ∙ (sym e ∙ f) in
    let m = may_take_now (history_in b) n h.legal h.numbered few
    (leb-true (entries (history_in b) + owed (history_in b) + 2) MAX_ENTRIES room) in
    let k : takes (history_in b) + 1 ≡ b.flushes + 1 = omega (arith, h.taken_are) in
    subst (λ s. MayTake (history_in b) (b.flushes + 1) s) (sym (pick_is b n h))
    (subst (λ i. MayTake (history_in b) i (pick (history_in b) n)) k m)

-- each series that is picked has something at home

home_listed : (live : List Flight) (held : List (List ℕ)) (all : List Accepted) (qs : List Accepted)
    → ((t : Accepted → Bool) → list_any t qs ≡ true → list_any t all ≡ true)
    → list_all (λ a. not (is_eligible live held a) || list_any (is_home_of a.point.series) all)
    qs ≡ true
home_listed live held all [] w = refl
home_listed live held all (a ∷ qs) w =
    and_from (not (is_eligible live held a) || list_any (is_home_of a.point.series) all)
    (list_all (λ a. not (is_eligible live held a) || list_any (is_home_of a.point.series) all)
    qs)
    (both (is_home a.place) refl)
    (home_listed live held all qs (λ t m. w t (or_right (t a) (list_any t qs) m)))
  where
    both : (v : Bool) → is_home a.place ≡ v
        → (not (is_eligible live held a) || list_any (is_home_of a.point.series) all) ≡ true
    both true e = or_right (not (is_eligible live held a))
        (list_any (is_home_of a.point.series) all)
        (w (is_home_of a.point.series)
        (or_left (is_home_of a.point.series a) (list_any (is_home_of a.point.series) qs)
        (and_from (is_home a.place) (same_series a.point.series a.point.series) e
        (same_series-refl a.point.series))))
    both false e = or_left (not (is_eligible live held a))
        (list_any (is_home_of a.point.series) all)
        (ap (λ v. not
        (v && (not (is_in_live live a.point.series) && not (is_held a.sender held)))) e)

pub home_picked : (qs : List Accepted) (live : List Flight) (held : List (List ℕ)) (n : ℕ)
    → list_all (λ x. list_any (is_home_of x) qs) (first_eligible qs live held n) ≡ true
home_picked qs live held n = picked_all_of (λ x. list_any (is_home_of x) qs) qs live held n
    (home_listed live held qs qs (λ t m. m))

pub taken_cells : (b : Inside) (ds new : List CellView) (ks : List (List ℕ)) (n f len : ℕ)
    (named : List Identity) → IsStored b → ds ≡ b.cells.items → ks ≡ b.held.items
    → named ≡ first_eligible (points (history_in b)) (live_flushes (history_in b)) b.held.items
    n → ForPoints ds (λ qs. AreCells new
    (map (on_series (lifted f) (first_ready ks n ds)) qs)) → length new ≡ length ds
    → len ≡ length b.cells.items
    → AreCells (take len (new ++ drop (length new) b.cells.items))
    (map (taken f named) (points (history_in b)))
taken_cells b ds new ks n f len named h d k e lifts l m =
    let qs = points (history_in b) in
    let picked : first_ready ks n ds ≡ named =
    ap (λ js. first_ready js n ds) k
    ∙ (ap (first_ready b.held.items n) d ∙ (picked_cells b n h ∙ sym e)) in
    subst (λ es. AreCells es (map (taken f named) qs))
    (sym (written_back b.cells.items new len (l ∙ ap length d) m))
    (subst (AreCells new) (ap (λ xs. map (on_series (lifted f) xs) qs) picked ∙ taken-on f named qs)
    (lifts qs (subst (λ es. AreCells es qs) (sym d) h.cells)))

-- nothing may be taken of what is passed over

pub over_in : (b : Inside) (ds : List CellView) (ks : List (List ℕ)) → IsStored b
    → ds ≡ b.cells.items → ks ≡ b.held.items → list_any (is_ready ks) (take b.passed ds) ≡ false
over_in b ds ks h d k = ap (λ js. list_any (is_ready js) (take b.passed ds)) k
    ∙ (ap (λ es. list_any (is_ready b.held.items) (take b.passed es)) d ∙ h.passed_over)

pub over_after : (b : Inside) (ds new : List CellView) (ks : List (List ℕ)) (i len : ℕ) → IsStored b
    → ds ≡ b.cells.items → ks ≡ b.held.items
    → ForPoints ds (λ _. list_any (is_ready ks) (take i new) ≡ false) → length new ≡ length ds
    → len ≡ length b.cells.items → list_any (is_ready b.held.items)
    (take i (take len (new ++ drop (length new) b.cells.items))) ≡ false
over_after b ds new ks i len h d k over l m =
    ap (λ es. list_any (is_ready b.held.items) (take i es))
    (written_back b.cells.items new len (l ∙ ap length d) m)
    ∙ (sym (ap (λ js. list_any (is_ready js) (take i new)) k)
    ∙ over (points (history_in b))
    (subst (λ es. AreCells es (points (history_in b))) (sym d) h.cells))

pub passed_to : (b : Inside) (ds : List CellView) (ks : List (List ℕ)) (i : ℕ) → IsStored b
    → ds ≡ b.cells.items → ks ≡ b.held.items → list_any (is_ready ks) (take i ds) ≡ false
    → IsStored (record b { passed = i })
passed_to b ds ks i h d k over = record {
  legal = h.legal;
  numbered = h.numbered;
  cells = h.cells;
  opened = h.opened;
  live = h.live;
  full = h.full;
  held_are = h.held_are;
  admitted_are = h.admitted_are;
  taken_are = h.taken_are;
  passed_over = sym (ap (λ js. list_any (is_ready js) (take i ds)) k
      ∙ ap (λ es. list_any (is_ready b.held.items) (take i es)) d) ∙ over;
  round = h.round;
  room = h.room;
  open_room = h.open_room;
  live_room = h.live_room;
}

pub flights_taken : (xs ys : List Entry) (x : Entry) (os os' : List JournalRef) (ls : List Flight)
    (f i : ℕ) (series : List Identity) → AreFlights xs os ls → ys ≡ xs ++ x ∷ []
    → x.event ≡ Take f series → i ≡ length xs
    → os' ≡ os ++ record { number = f; entry = i } ∷ []
    → AreFlights ys os' (ls ++ record { number = f; series = series } ∷ [])
flights_taken xs ys x os os' ls f i series h e v m o =
    subst (λ zs. AreFlights zs os' (ls ++ record { number = f; series = series } ∷ [])) (sym e)
    (subst (λ ps. AreFlights (xs ++ x ∷ []) ps (ls ++ record { number = f; series = series } ∷ []))
    (sym (o ∙ ap (λ j. os ++ record { number = f; entry = j } ∷ []) m))
    (flights_push (xs ++ x ∷ []) os ls (record { number = f; entry = length xs })
    (record { number = f; series = series }) (flights_more xs (x ∷ []) os ls h) refl
    (subst (At (xs ++ x ∷ []) (length xs)) v (at_last xs x))))
