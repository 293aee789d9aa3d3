-- How a book keeps its cells, and the entries of what is open or live.
use Rattle.std.specs.Prelude.{◌≡◌, ℕ, ◌==◌, Bool, true, List, [], ◌∷◌, ◌++◌, map, if◌then◌else◌}
use Rattle.std.specs.Prelude.{Some, None, zero, suc, not}
use Rattle.std.specs.declared.option.Option.{Option}
use Rattle.std.specs.List.{list_all, list_any}
use Rattle.series_id.specs.Identity.{Identity}
use Rattle.metric_events.specs.DataPoint.{DataPoint}
use Rattle.metric_events.specs.Points.{admitted, is_among}
use Rattle.metric_events.specs.Series.{is_of, of_series, is_ascending}
use Rattle.metric_events.specs.Choice.{is_cargo}
use Rattle.metric_events.specs.declared.accepted.Accepted.{Accepted}
use Rattle.metric_events.specs.declared.batch.Batch.{Batch}
use Rattle.metric_events.specs.declared.flight.Flight.{Flight}
use Rattle.metric_events.specs.declared.entry.Entry.{Entry}
use Rattle.metric_events.specs.declared.event.Event.{Event}
use Rattle.metric_events.specs.declared.event.Event.TheVariants.{Admit, Take, Settle, Drop}
use Rattle.metric_events.specs.declared.event.Event.TheVariants.{GiveBack}
use Rattle.metric_events.specs.declared.place.Place.{Place}
use Rattle.metric_events.specs.declared.place.Place.TheVariants.{Home, Acknowledged, Dropped}
use Rattle.series_cell.specs.Cells.{CellView, AreTogether, is_of_batch}
use Rattle.delta_book.specs.inner.AtHome.{AreAccepted}
use Rattle.delta_book.specs.inner.Batches.{is_point_of}
use Rattle.delta_book.specs.declared.open.JournalRef.{JournalRef}
use Rattle.delta_book.specs.Tables.{id_of, AllStand, AreCells}

-- this holds of whatever points the cells are of
abbrev pub ForPoints : List CellView → (List Accepted → Type 0) → Type 0
ForPoints cs P = (qs : List Accepted) → AreCells cs qs → P qs

-- the cells are of some points
abbrev pub AreSome : List CellView → Type 0
AreSome cs = (qs : List Accepted) × AreCells cs qs

-- and this, of whatever points that some history accepted
abbrev pub ForAccepted : List CellView → (List Accepted → Type 0) → Type 0
ForAccepted cs P = (qs : List Accepted) → AreAccepted qs → AreCells cs qs → P qs

-- the new cells are of the same points
abbrev pub Keeps : List CellView → List CellView → Type 0
Keeps old new = ForPoints old (λ qs. AreCells new qs)

-- the new cells are of these points of a batch too, which come last
abbrev pub Puts : List CellView → List CellView → ℕ → List ℕ → List DataPoint → Type 0
Puts old new b s ps = ForPoints old (λ qs. AreCells new (qs ++ map (admitted b s) ps))

-- the new cells are without these points of a batch
abbrev pub Removes : List CellView → List CellView → ℕ → List DataPoint → Type 0
Removes old new b ps =
    (s : List ℕ) (before after : List Accepted)
    → AreCells old (before ++ (map (admitted b s) ps ++ after)) → AreCells new (before ++ after)

-- cell i is of series x
abbrev pub IdAt : List CellView → ℕ → Identity → Type 0
IdAt [] i x = ⊥
IdAt (c ∷ cs) zero x = c.id ≡ x
IdAt (c ∷ cs) (suc i) x = IdAt cs i x

-- entry i has this event
abbrev pub At : List Entry → ℕ → Event → Type 0
At [] i e = ⊥
At (x ∷ xs) zero e = x.event ≡ e
At (x ∷ xs) (suc i) e = At xs i e

-- what is live is kept by its number and the position of its entry
abbrev pub AreFlights : List Entry → List JournalRef → List Flight → Type 0
AreFlights es [] [] = Unit {0}
AreFlights es (o ∷ os) (l ∷ ls) =
    (o.number ≡ l.number) × (At es o.entry (Take l.number l.series)) × AreFlights es os ls
AreFlights es os ls = ⊥

-- what is open, likewise
abbrev pub AreOpen : List Entry → List JournalRef → List ℕ → Type 0
AreOpen es [] [] = Unit {0}
AreOpen es (o ∷ os) (b ∷ bs) =
    (o.number ≡ b) × ((body : Batch) × At es o.entry (Admit b body)) × AreOpen es os bs
AreOpen es os bs = ⊥

-- this event ends the flush, and its points get this state
abbrev pub EndsFlush : ℕ → Place → Event → Type 0
EndsFlush f Acknowledged e = e ≡ Settle f
EndsFlush f Dropped e = e ≡ Drop f
EndsFlush f Home e = e ≡ GiveBack f
EndsFlush f q e = ⊥

-- the position of the entry of what has this number
abbrev pub entry_of : ℕ → List JournalRef → Option ℕ
entry_of n [] = None
entry_of n (o ∷ os) = if o.number == n then Some o.entry else entry_of n os

abbrev pub is_other_open : ℕ → JournalRef → Bool
is_other_open n o = not (o.number == n)

-- the series that an event takes, and those of entry i
abbrev pub series_of_event : Event → List Identity
series_of_event (Take f series) = series
series_of_event e = []

abbrev pub series_named : List Entry → ℕ → List Identity
series_named [] i = []
series_named (x ∷ xs) zero = series_of_event x.event
series_named (x ∷ xs) (suc i) = series_named xs i

-- each series of a live flush has a point in flight with it
abbrev pub is_full : List Accepted → Flight → Bool
is_full qs l = list_all (λ x. list_any (is_cargo l.number x) qs) l.series

abbrev pub are_full : List Accepted → List Flight → Bool
are_full qs live = list_all (is_full qs) live

-- a change of the points of some series alone
abbrev pub on_series : (Accepted → Accepted) → List Identity → Accepted → Accepted
on_series g xs a = if is_among a.point.series xs then g a else a

abbrev pub HasPoint : Identity → List Accepted → Type 0
HasPoint x qs = list_any (is_of x) qs ≡ true

-- the points that an event admits, and those of entry i
abbrev pub points_of_event : Event → List DataPoint
points_of_event (Admit b body) = body.points
points_of_event e = []

abbrev pub points_named : List Entry → ℕ → List DataPoint
points_named [] i = []
points_named (x ∷ xs) zero = points_of_event x.event
points_named (x ∷ xs) (suc i) = points_named xs i

-- cells in series order that represent these points; some may represent no point
pub record IsTable (cs : List CellView) (qs : List Accepted) : Type 0 where
  pub ascending : is_ascending (map id_of cs) ≡ true
  pub stand : AllStand cs qs
  pub covered : list_all (λ a. is_among a.point.series (map id_of cs)) qs ≡ true

-- these are pending points of the batch
abbrev pub HasPending : List CellView → ℕ → List DataPoint → Type 0
HasPending cs b ps =
    (s : List ℕ) × ((before : List Accepted)
    × ((after : List Accepted) × AreCells cs (before ++ (map (admitted b s) ps ++ after))))

-- these are the batch's points; in each series they are all pending, or none is
pub record IsEntered (qs : List Accepted) (b : ℕ) (ps : List DataPoint) : Type 0 where
  pub its : (x : Identity) → list_any (is_of_batch b) (of_series x qs) ≡ list_any (is_point_of x) ps
  pub together : (x : Identity) → AreTogether b (of_series x qs)
