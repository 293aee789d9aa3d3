-- What a reader has of a post that it has read.
use Rattle.std.specs.Prelude.{◌≡◌, ◌≢◌, ℕ, ◌+◌, List, [], ◌∷◌, Option, Some, None, Ok, Err, ⊤}
use Rattle.std.specs.Prelude.{length}
use Rattle.std.specs.List.{All}
use Rattle.series_id.specs.Identity.{Identity}
use Rattle.metric_events.specs.DataPoint.{DataPoint}
use Rattle.metric_events.specs.Senders.{name_fault}
use Rattle.otlp_protobuf.specs.Reading.{bytes_reading}
use Rattle.otlp_read.specs.Reading.{text_reading}
use Rattle.otlp_read.specs.Tallies.{Tally}
use Rattle.otlp_read.specs.declared.place.Place.{Place}
use Rattle.book_desk.specs.declared.draft.Counts.{Counts}
use Rattle.book_desk.specs.declared.part.Part.{Part}
use Rattle.book_desk.specs.declared.reader.PostFault.{PostFault}
use Rattle.book_desk.specs.declared.reader.PostFault.TheVariants as faults
use Rattle.book_desk.specs.declared.reader.BytesFault.{BytesFault}
use Rattle.book_desk.specs.declared.reader.BytesFault.TheVariants as bytes
use Rattle.book_desk.specs.declared.by_number.PutFault.{PutFault}
use Rattle.book_desk.specs.declared.by_number.PutFault.TheVariants as put
use Rattle.book_desk.specs.declared.window.Window.{Window}
use Rattle.book_desk.specs.Splits.{AreSplit, IsFrom}
use Rattle.book_desk.specs.Windows.{within}
use Rattle.book_desk.specs.Words.{points_of}

-- the parts of these points of this sender: one for each of so many books, or none if there are no
-- points
abbrev pub AreParts : (books : ℕ) (sender : List ℕ) → List DataPoint → List (Option Part) → Type 0
AreParts books sender [] parts = parts ≡ []
AreParts books sender (p ∷ ps) parts =
    (length parts ≡ books) × AreSplit parts (p ∷ ps) × All (IsFrom sender) parts

-- the parts are those of the points that end within the window, and all are counted
pub record IsKept (books : ℕ) (sender : List ℕ) (window : Window) (t : Tally) (counts : Counts)
    (parts : List (Option Part)) : Type 0 where
  pub named : name_fault sender ≡ None
  pub split : AreParts books sender (within window t.points) parts
  pub points : counts.points ≡ length (within window t.points)
  pub all : counts.points + counts.outside ≡ length t.points
  pub foreign : counts.foreign ≡ t.foreign

-- they are those that the bytes say
abbrev pub IsRead :
    (sender bytes : List ℕ) (books : ℕ) → Window → Counts → List (Option Part) → Type 0
IsRead sender bytes books window counts parts =
    (t : Tally) × (text_reading bytes ≡ Some (Ok t)) × IsKept books sender window t counts parts

-- why a post is not read
abbrev pub IsUnread : (sender bytes : List ℕ) → PostFault → Type 0
IsUnread sender bytes faults.BadSender = name_fault sender ≢ None
IsUnread sender bytes faults.NotJson = text_reading bytes ≡ None
IsUnread sender bytes faults.WrongShape = (p : Place) × (text_reading bytes ≡ Some (Err p))
IsUnread sender bytes faults.NoMemory = ⊤

-- they are those that the bytes say in protobuf
abbrev pub IsReadBytes :
    (sender body : List ℕ) (books : ℕ) → Window → Counts → List (Option Part) → Type 0
IsReadBytes sender body books window counts parts =
    (t : Tally) × (bytes_reading body ≡ Ok (Ok t)) × IsKept books sender window t counts parts

-- why a post in protobuf is not read
abbrev pub IsUnreadBytes : (sender body : List ℕ) → BytesFault → Type 0
IsUnreadBytes sender body bytes.BadSender = name_fault sender ≢ None
IsUnreadBytes sender body (bytes.Malformed why) = bytes_reading body ≡ Err why
IsUnreadBytes sender body bytes.NoMemory = ⊤

-- they are those that the words say over the names
abbrev pub IsPut :
    List Identity → (sender words : List ℕ) (books : ℕ) → Window → Counts → List (Option Part)
    → Type 0
IsPut names sender words books window counts parts =
    (t : Tally) × (points_of names words ≡ Some t) × IsKept books sender window t counts parts

-- why they are not put
abbrev pub IsNotPut : List Identity → (sender words : List ℕ) → PutFault → Type 0
IsNotPut names sender words put.BadSender = name_fault sender ≢ None
IsNotPut names sender words put.NoSuch = points_of names words ≡ None
IsNotPut names sender words put.NoMemory = ⊤
