-- What an open batch brought leaves the cells.
use Rattle.std.proofs.Common.{◌≡◌, ℕ, Bool, true, List, [], ◌∷◌, ◌++◌, map, filter, ap, sym, ◌∙◌}
use Rattle.std.proofs.Common.{subst, refl, inl, inr, zero, suc, Some}
use Rattle.metric_events.specs.DataPoint.{DataPoint}
use Rattle.metric_events.specs.History.{History, Opened, ◌▸◌}
use Rattle.metric_events.specs.Points.{points, admitted, is_of_other_batch}
use Rattle.metric_events.specs.Running.{open_batches}
use Rattle.metric_events.specs.Legal.{is_open, is_batch_home}
use Rattle.metric_events.specs.declared.accepted.Accepted.{Accepted}
use Rattle.metric_events.specs.declared.batch.Batch.{Batch}
use Rattle.metric_events.specs.declared.entry.Entry.{Entry}
use Rattle.metric_events.specs.declared.event.Event.{Event}
use Rattle.metric_events.specs.declared.event.Event.TheVariants.{Admit}
use Rattle.series_cell.specs.Cells.{CellView}
use Rattle.delta_book.specs.Journal.{history}
use Rattle.delta_book.specs.declared.book.Book.TheInside.{Inside}
use Rattle.delta_book.specs.inner.Stored.{IsStored, journal_in, history_in}
use Rattle.delta_book.specs.Tables.{AreCells}
use Rattle.delta_book.specs.inner.Tables.{At, HasPending, IsEntered, entry_of, points_named}
use Rattle.delta_book.specs.inner.Tables.{points_of_event}
use Rattle.delta_book.specs.declared.open.JournalRef.{JournalRef}
use Rattle.delta_book.proofs.Batch.{AdmitIn, Whole, whole, admitted_above}
use Rattle.delta_book.proofs.Entries.{from_entry}
use Rattle.delta_book.proofs.Opened.{open_at}
use Rattle.delta_book.proofs.Entered.{entered, parts_at_home, rest_is, removes_all}

admit_kept : (E : History) (e : Event) (b : ℕ) (body : Batch) → AdmitIn E b body
    → AdmitIn (E ▸ e) b body
admit_kept E (Admit c some) b body h = inr h
admit_kept E e b body h = h

admits_at : (xs : List Entry) (i b : ℕ) (body : Batch) → At xs i (Admit b body)
    → points_named xs i ≡ body.points
admits_at [] i b body h = absurd h
admits_at (x ∷ xs) zero b body h = ap points_of_event h
admits_at (x ∷ xs) (suc i) b body h = admits_at xs i b body h

-- an open batch, by its entry
pub record Leaving (E : History) (b : ℕ) (ps : List DataPoint) : Type 0 where
  pub body : Batch
  pub open_now : is_open b (open_batches E) ≡ true
  pub stands : Whole (points E) b body
  pub are : ps ≡ body.points
  pub entered : IsEntered (points E) b ps

pub leaving : (kept : Inside) (es : List Entry) (b i : ℕ) (ds : List JournalRef)
    (ps : List DataPoint) → IsStored kept → ds ≡ kept.opened.items → es ≡ kept.entries.items
    → Some i ≡ entry_of b ds → ps ≡ points_named es i → Leaving (history_in kept) b ps
leaving kept es b i ds ps h d s e p =
    let xs = journal_in kept in
    let o = open_at xs.entries kept.opened.items (open_batches (history xs)) b i h.opened
    (ap (entry_of b) (sym d) ∙ sym e) in
    let there = from_entry (λ E. AdmitIn E b o.body) (λ E e k. admit_kept E e b o.body k)
    (Admit b o.body) (λ E. inl (refl, refl)) (Opened xs.opening) xs.entries i o.here in
    let w = whole (history xs) b o.body h.legal there o.open_now in
    let k : ps ≡ o.body.points =
    p ∙ (ap (λ ys. points_named ys i) s ∙ admits_at xs.entries i b o.body o.here) in
    record {
      body = o.body;
      open_now = o.open_now;
      stands = w;
      are = k;
      entered = subst (IsEntered (points (history xs)) b) (sym k)
          (entered (history xs) b o.body h.legal
          (admitted_above (history xs) b o.body h.legal there) w);
    }

pub home_of : (cs ds : List CellView) (E : History) (b : ℕ) (ps : List DataPoint) (v w : Bool)
    → AreCells cs (points E) → ds ≡ cs → Leaving E b ps
    → ((qs : List Accepted) → AreCells ds qs → IsEntered qs b ps → v ≡ is_batch_home b qs)
    → v ≡ w → is_batch_home b (points E) ≡ w
home_of cs ds E b ps v w h d l k e =
    sym (k (points E) (subst (λ ks. AreCells ks (points E)) (sym d) h) l.entered) ∙ e

pub may_remove : (cs ds : List CellView) (E : History) (b : ℕ) (ps rs : List DataPoint)
    → AreCells cs (points E) → ds ≡ cs → Leaving E b ps → is_batch_home b (points E) ≡ true
    → rs ≡ ps → HasPending ds b rs
may_remove cs ds E b ps rs h d l k e =
    subst (HasPending ds b) (sym (e ∙ l.are))
    (removes_all ds (points E) b l.body (subst (λ ks. AreCells ks (points E)) (sym d) h)
    l.stands k)

pub left_cells : (cs ds new : List CellView) (E : History) (b : ℕ) (ps rs : List DataPoint)
    → AreCells cs (points E) → ds ≡ cs → Leaving E b ps → is_batch_home b (points E) ≡ true
    → rs ≡ ps → ((s : List ℕ) (before after : List Accepted)
    → AreCells ds (before ++ (map (admitted b s) rs ++ after))
    → AreCells new (before ++ after))
    → AreCells new (filter (is_of_other_batch b) (points E))
left_cells cs ds new E b ps rs h d l k e f =
    let w = l.stands in
    subst (AreCells new) (sym (rest_is (points E) b l.body w))
    (f l.body.sender w.before w.after
    (subst (λ (qs : List DataPoint). AreCells ds
    (w.before ++ (map (admitted b l.body.sender) qs ++ w.after))) (sym (e ∙ l.are))
    (subst (AreCells ds) (parts_at_home (points E) b l.body w k)
    (subst (λ ks. AreCells ks (points E)) (sym d) h))))
