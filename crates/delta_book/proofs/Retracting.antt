-- A book without the last entry of its journal, by which a batch was admitted.
use Rattle.std.proofs.Common.{◌≡◌, ◌≢◌, ℕ, ◌+◌, ◌≤◌, Bool, true, false, not, List, [], ◌∷◌}
use Rattle.std.proofs.Common.{◌++◌, map, filter, take, length, refl, ap, sym, ◌∙◌, subst, arith}
use Rattle.std.proofs.Common.{zero, suc}
use Rattle.std.specs.List.{list_any, list_all}
use Rattle.std.specs.Prelude.{vec_capacity}
use Rattle.std.proofs.lemmas.Bool.{and_parts, eq-eqb}
use Rattle.std.proofs.lemmas.List.{append-nil, length-append}
use Rattle.std.proofs.Math.Seq.{take-append_seam}
use Rattle.metric_events.specs.History.{History, ◌▸◌}
use Rattle.metric_events.specs.Points.{points, admitted}
use Rattle.metric_events.specs.Running.{open_batches, live_flushes, held_senders, is_another}
use Rattle.metric_events.specs.Legal.{IsLegal}
use Rattle.metric_events.specs.Strike.{CanBeStruck, strike}
use Rattle.metric_events.specs.declared.batch.Batch.{Batch}
use Rattle.metric_events.specs.declared.entry.Entry.{Entry}
use Rattle.metric_events.specs.declared.event.Event.{Event}
use Rattle.metric_events.specs.declared.event.Event.TheVariants.{Admit, Undo, Take}
use Rattle.metric_events.specs.declared.flight.Flight.{Flight}
use Rattle.metric_events.specs.declared.limits.TheConstants.{MAX_ENTRIES, MAX_OPEN, MAX_LIVE}
use Rattle.metric_events.proofs.Lists.{all_always}
use Rattle.metric_events.proofs.Striking.{can_be_struck}
use Rattle.metric_events.specs.DataPoint.{DataPoint}
use Rattle.series_cell.specs.Cells.{CellView}
use Rattle.delta_book.specs.Journal.{Journal, appended, history, admits, takes, IsNumbered}
use Rattle.delta_book.specs.Journal.{journal_of}
use Rattle.delta_book.specs.Tables.{AreCells}
use Rattle.delta_book.specs.declared.book.Book.TheInside.{Inside}
use Rattle.delta_book.specs.declared.open.JournalRef.{JournalRef}
use Rattle.delta_book.specs.declared.opening.TheConstants.{LAST_ROUND}
use Rattle.delta_book.specs.inner.Ready.{is_ready}
use Rattle.delta_book.specs.inner.Stored.{IsStored, journal_in, history_in}
use Rattle.delta_book.specs.inner.Tables.{At, AreOpen, AreFlights, are_full, is_other_open}
use Rattle.delta_book.specs.inner.Tables.{HasPending, Removes, points_named, points_of_event}
use Rattle.delta_book.proofs.Entries.{full_undo, all_filtered}
use Rattle.delta_book.proofs.Journaled.{after_push}
use Rattle.delta_book.proofs.Opened.{open_closed}
use Rattle.delta_book.proofs.Undoing.{is_now_open, is_now_home}

-- another entry than the last one
at_less : (es : List Entry) (x : Entry) (i : ℕ) (e : Event) → At (es ++ x ∷ []) i e → x.event ≢ e
    → At es i e
at_less [] x zero e h k = absurd (k h)
at_less [] x (suc i) e h k = h
at_less (y ∷ es) x zero e h k = h
at_less (y ∷ es) x (suc i) e h k = at_less es x i e h k

-- the number of the batch that an event admits
abbrev number_of : Event → ℕ
number_of (Admit b body) = b
number_of e = 0

abbrev is_admission : Event → Bool
is_admission (Admit b body) = true
is_admission e = false

-- the batches that are open have other entries than that which admits another batch
open_less : (es : List Entry) (x : Entry) (n : ℕ) (body : Batch) (os : List JournalRef)
    (bs : List ℕ) → x.event ≡ Admit n body → list_all (is_another n) bs ≡ true
    → AreOpen (es ++ x ∷ []) os bs → AreOpen es os bs
open_less es x n body [] [] v a h = tt
open_less es x n body [] (b ∷ bs) v a h = absurd h
open_less es x n body (o ∷ os) [] v a h = absurd h
open_less es x n body (o ∷ os) (b ∷ bs) v a h =
    let p = and_parts (is_another n b) (list_all (is_another n) bs) a in (
      h.0,
      (
        h.1.0,
        at_less es x o.entry (Admit b h.1.0) h.1.1
            (λ e. absurd (let same : n ≡ b = ap number_of (sym v ∙ e) in
            let t : not true ≡ true = subst (λ w. not w ≡ true) (eq-eqb b n (sym same)) p.0 in
            let z : false ≡ true = t in cc)),
      ),
      open_less es x n body os bs v p.1 h.2,
    )

-- and so have the live flushes
flights_less : (es : List Entry) (x : Entry) (n : ℕ) (body : Batch) (os : List JournalRef)
    (ls : List Flight) → x.event ≡ Admit n body
    → AreFlights (es ++ x ∷ []) os ls → AreFlights es os ls
flights_less es x n body [] [] v h = tt
flights_less es x n body [] (l ∷ ls) v h = absurd h
flights_less es x n body (o ∷ os) [] v h = absurd h
flights_less es x n body (o ∷ os) (l ∷ ls) v h = (
  h.0,
  at_less es x o.entry (Take l.number l.series) h.1
      (λ e. absurd (let z : true ≡ false = ap is_admission (sym v ∙ e) in cc)),
  flights_less es x n body os ls v h.2,
)

others_only : (n : ℕ) (bs : List ℕ) → list_all (is_another n) (filter (is_another n) bs) ≡ true
others_only n bs = all_filtered (λ b. true) (is_another n) (is_another n) (λ b a e. e) bs
    (all_always (λ b. true) (λ b. refl) bs)

-- an undo of the batch that was admitted last leaves what there was before
pub undone : (E : History) (n : ℕ) (body : Batch) → IsLegal (E ▸ Admit n body)
    → CanBeStruck (E ▸ Admit n body ▸ Undo n)
undone E n body l = can_be_struck (E ▸ Admit n body ▸ Undo n) refl (
  l,
  record {
    opened = is_now_open n body E;
    home = is_now_home n body E l.1.fresh;
  },
)

strike-undone : (E : History) (n : ℕ) (body : Batch) → strike (E ▸ Admit n body ▸ Undo n) ≡ E
strike-undone E n body = rw (eq-eqb n n refl) refl

-- without the last entry, and what that does to what is kept
pub stored_pop : (b b' : Inside) (old : Journal) (seat n : ℕ) (body : Batch) → IsStored b
    → journal_in b ≡ appended old (record { seat = seat; event = Admit n body })
    → journal_in b' ≡ old
    → AreCells b'.cells.items (points (history old))
    → b'.opened.items ≡ filter (is_other_open n) b.opened.items
    → b'.live.items ≡ b.live.items
    → b'.held.items ≡ b.held.items
    → MAX_OPEN ≤ vec_capacity b'.opened
    → MAX_LIVE ≤ vec_capacity b'.live
    → MAX_ENTRIES ≤ vec_capacity b'.entries
    → b'.batches + 1 ≡ b.batches
    → b'.flushes ≡ b.flushes
    → list_any (is_ready b'.held.items) (take b'.passed b'.cells.items) ≡ false
    → IsStored b'
stored_pop b b' old seat n body h ex ey cells opened live held open_room live_room room eb ef
    passed =
    let x : Entry = record { seat = seat; event = Admit n body } in
    let E = history old in
    let e : history_in b ≡ E ▸ Admit n body = after_push old (journal_in b) x ex in
    let e' : history_in b' ≡ E = ap history ey in
    let l : IsLegal (E ▸ Admit n body) = subst IsLegal e h.legal in
    let s = undone E n body l in
    let k = strike-undone E n body in
    let es : b.entries.items ≡ old.entries ++ x ∷ [] = ap (λ (j : Journal). j.entries) ex in
    let es' : b'.entries.items ≡ old.entries = ap (λ (j : Journal). j.entries) ey in
    let same_open : filter (is_another n) (open_batches (E ▸ Admit n body)) ≡ open_batches E =
    sym s.agree.batches ∙ ap open_batches k in
    let all_open : AreOpen (old.entries ++ x ∷ []) b.opened.items
    (open_batches (E ▸ Admit n body)) =
    subst (λ xs. AreOpen xs b.opened.items (open_batches (E ▸ Admit n body))) es
    (subst (λ F. AreOpen b.entries.items b.opened.items (open_batches F)) e h.opened) in
    let others : AreOpen old.entries b'.opened.items (open_batches E) =
    subst (AreOpen old.entries b'.opened.items) same_open
    (subst (λ os. AreOpen old.entries os
    (filter (is_another n) (open_batches (E ▸ Admit n body)))) (sym opened)
    (open_less old.entries x n body _ _ refl (others_only n _)
    (open_closed (old.entries ++ x ∷ []) b.opened.items
    (open_batches (E ▸ Admit n body)) n all_open))) in
    let flights : AreFlights old.entries b'.live.items (live_flushes E) =
    subst (λ os. AreFlights old.entries os (live_flushes E)) (sym live)
    (flights_less old.entries x n body b.live.items (live_flushes E) refl
    (subst (λ xs. AreFlights xs b.live.items (live_flushes E)) es
    (subst (λ F. AreFlights b.entries.items b.live.items (live_flushes F)) e h.live))) in
    let full : are_full (points E) (live_flushes E) ≡ true =
    subst (λ qs. are_full qs (live_flushes E) ≡ true) (sym s.agree.points ∙ ap points k)
    (full_undo n (points (E ▸ Admit n body)) (live_flushes E) (is_now_home n body E l.1.fresh)
    (subst (λ F. are_full (points F) (live_flushes F) ≡ true) e h.full)) in
    record {
      legal = subst IsLegal (sym e') l.0;
      numbered = subst IsNumbered (sym e') (subst IsNumbered e h.numbered).1;
      cells = subst (λ F. AreCells b'.cells.items (points F)) (sym e') cells;
      opened = subst (λ xs. AreOpen xs b'.opened.items (open_batches (history_in b'))) (sym es')
          (subst (λ F. AreOpen old.entries b'.opened.items (open_batches F)) (sym e') others);
      live = subst (λ xs. AreFlights xs b'.live.items (live_flushes (history_in b'))) (sym es')
          (subst (λ F. AreFlights old.entries b'.live.items (live_flushes F)) (sym e') flights);
      full = subst (λ F. are_full (points F) (live_flushes F) ≡ true) (sym e') full;
      held_are = held ∙ (h.held_are ∙ (ap held_senders e ∙ ap held_senders (sym e')));
      admitted_are = omega (arith, eb, h.admitted_are, ap admits e, ap admits e');
      taken_are = ef ∙ (h.taken_are ∙ (ap takes e ∙ ap takes (sym e')));
      passed_over = passed;
      round = subst (λ (j : Journal). j.opening.round ≤ LAST_ROUND) (sym ey)
          (subst (λ (j : Journal). j.opening.round ≤ LAST_ROUND) ex h.round);
      room = room;
      open_room = open_room;
      live_room = live_room;
    }

-- the points of the last entry are the last that were accepted

named_last : (es : List Entry) (x : Entry)
    → points_named (es ++ x ∷ []) (length es) ≡ points_of_event x.event
named_last [] x = refl
named_last (y ∷ es) x = named_last es x

length_less : (es : List Entry) (x : Entry) (ds : List Entry) (i : ℕ) → ds ≡ es ++ x ∷ []
    → i + 1 ≡ length ds → i ≡ length es
length_less es x ds i e l = omega (arith, l, ap length e, length-append es (x ∷ []))

-- what the entry at the end names is there, after all else
last_there : (b : Inside) (old : Journal) (seat n i : ℕ) (body : Batch) (es : List Entry)
    (ps : List DataPoint) → IsStored b
    → journal_in b ≡ appended old (record { seat = seat; event = Admit n body })
    → es ≡ b.entries.items → i + 1 ≡ length b.entries.items → ps ≡ points_named es i
    → AreCells b.cells.items (points (history old) ++ (map (admitted n body.sender) ps ++ []))
last_there b old seat n i body es ps h ex s l p =
    let x : Entry = record { seat = seat; event = Admit n body } in
    let E = history old in
    let e : history_in b ≡ E ▸ Admit n body = after_push old (journal_in b) x ex in
    let ds : b.entries.items ≡ old.entries ++ x ∷ [] = ap (λ (j : Journal). j.entries) ex in
    let k : ps ≡ body.points =
    p ∙ (ap (λ xs. points_named xs i) (s ∙ ds)
    ∙ (ap (points_named (old.entries ++ x ∷ [])) (length_less old.entries x b.entries.items i ds l)
    ∙ named_last old.entries x)) in
    subst (λ rs. AreCells b.cells.items (points E ++ rs))
    (sym (append-nil (map (admitted n body.sender) ps)))
    (subst (λ (qs : List DataPoint). AreCells b.cells.items
    (points E ++ map (admitted n body.sender) qs)) (sym k)
    (subst (λ F. AreCells b.cells.items (points F)) e h.cells))

pub may_leave : (b : Inside) (old : Journal) (seat n i : ℕ) (body : Batch) (es : List Entry)
    (ps : List DataPoint) → IsStored b
    → journal_in b ≡ appended old (record { seat = seat; event = Admit n body })
    → es ≡ b.entries.items → i + 1 ≡ length b.entries.items → ps ≡ points_named es i
    → HasPending b.cells.items n ps
may_leave b old seat n i body es ps h ex s l p =
    (body.sender, (points (history old), ([], last_there b old seat n i body es ps h ex s l p)))

pub left : (b : Inside) (old : Journal) (seat n i : ℕ) (body : Batch) (es : List Entry)
    (ps : List DataPoint) (new : List CellView) → IsStored b
    → journal_in b ≡ appended old (record { seat = seat; event = Admit n body })
    → es ≡ b.entries.items → i + 1 ≡ length b.entries.items → ps ≡ points_named es i
    → Removes b.cells.items new n ps → AreCells new (points (history old))
left b old seat n i body es ps new h ex s l p f =
    subst (AreCells new) (append-nil (points (history old)))
    (f body.sender (points (history old)) [] (last_there b old seat n i body es ps h ex s l p))

-- the journal without its last entry
pub journal_less : (j old : Journal) (x : Entry) (es : List Entry) (i : ℕ) → j ≡ appended old x
    → i + 1 ≡ length j.entries → es ≡ take i j.entries → journal_of j.opening es ≡ old
journal_less j old x es i e l t =
    let ds : j.entries ≡ old.entries ++ x ∷ [] = ap (λ (k : Journal). k.entries) e in
    let r : es ≡ old.entries =
    t ∙ (ap (λ n. take n j.entries) (length_less old.entries x j.entries i ds l)
    ∙ (ap (take (length old.entries)) ds ∙ take-append_seam old.entries (x ∷ []))) in
    ap (λ (k : Journal). journal_of k.opening es) e ∙ ap (journal_of old.opening) r

pub some_entry : (b : Inside) (old : Journal) (x : Entry) → journal_in b ≡ appended old x
    → length b.entries.items ≡ length old.entries + 1
some_entry b old x e =
    ap (λ (j : Journal). length j.entries) e ∙ length-append old.entries (x ∷ [])

pub some_batch : (b : Inside) (old : Journal) (seat n : ℕ) (body : Batch) → IsStored b
    → journal_in b ≡ appended old (record { seat = seat; event = Admit n body }) → 1 ≤ b.batches
some_batch b old seat n body h ex =
    let k : admits (history_in b) ≡ admits (history old) + 1 =
    ap admits (after_push old (journal_in b) (record { seat = seat; event = Admit n body }) ex) in
    omega (arith, h.admitted_are, k)
