-- Which refusal a post over many books gets: that of the least position in the whole post.
use Rattle.std.specs.Prelude.{◌≡◌, ◌≢◌, ℕ, Bool, ◌&&◌, ◌||◌, nat_lt, nat_eq, if◌then◌else◌}
use Rattle.std.specs.Prelude.{Option, Some, None, List, [], ◌∷◌, length, get_or, unwrap_or}
use Rattle.std.specs.Prelude.{option_map}
use Rattle.delta_book.specs.Journal.{Journal, history}
use Rattle.delta_book.specs.Refusals.{admit_refusal}
use Rattle.delta_book.specs.declared.faults.AdmitFault.{AdmitFault}
use Rattle.delta_book.specs.declared.faults.AdmitFault.TheVariants.{Quarantined, Full, OtherWriter}
use Rattle.delta_book.specs.declared.faults.AdmitFault.TheVariants.{OutOfOrder, TooManySeries}
use Rattle.delta_book.specs.declared.faults.AdmitFault.TheVariants.{TooLarge, NoMemory}
use Rattle.book_desk.specs.declared.part.Part.{Part}
use Rattle.book_desk.specs.declared.desk.DeskFault.{DeskFault}
use Rattle.book_desk.specs.declared.desk.DeskFault.TheVariants.{Nothing, Refused}

-- in this order: the sender, the room, a point, the number of series, a sum, memory
abbrev pub rank : AdmitFault → ℕ
rank Quarantined = 0
rank Full = 1
rank (OtherWriter i) = 2
rank (OutOfOrder i frontier) = 2
rank TooManySeries = 3
rank TooLarge = 4
rank NoMemory = 5

-- the position of the point
abbrev pub position : AdmitFault → ℕ
position (OtherWriter i) = i
position (OutOfOrder i frontier) = i
position fault = 0

-- a comes before b
abbrev pub is_before : AdmitFault → AdmitFault → Bool
is_before a b =
    nat_lt (rank a) (rank b) || (nat_eq (rank a) (rank b) && nat_lt (position a) (position b))

-- the one that comes first, where there is one
abbrev pub earlier : Option AdmitFault → Option AdmitFault → Option AdmitFault
earlier None b = b
earlier (Some a) None = Some a
earlier (Some a) (Some b) = if is_before b a then Some b else Some a

-- a point is named by its position in the whole post
abbrev pub placed : List ℕ → AdmitFault → AdmitFault
placed places (OtherWriter i) = OtherWriter (get_or places i i)
placed places (OutOfOrder i frontier) = OutOfOrder (get_or places i i) frontier
placed places fault = fault

-- why a book refuses its part
abbrev pub part_refusal : Journal → Option Part → Option AdmitFault
part_refusal book None = None
part_refusal book (Some part) =
    option_map (placed part.places.items) (admit_refusal (history book) part.body)

-- why a post is refused: the first of what the books say of their parts
unfoldable pub post_refusal : List Journal → List (Option Part) → Option AdmitFault
post_refusal [] parts = None
post_refusal (book ∷ books) [] = None
post_refusal (book ∷ books) (part ∷ parts) =
    earlier (part_refusal book part) (post_refusal books parts)

-- the answer goes by this refusal: nothing is refused, or that is, or memory ran out where nothing
-- else is
abbrev pub GoesBy : (answer refusal : Option AdmitFault) → Type 0
GoesBy None refusal = refusal ≡ None
GoesBy (Some fault) refusal = fault ≡ unwrap_or refusal NoMemory

-- why a post is not admitted: nothing was read for so many books, or it is refused
abbrev pub IsNotAdmitted : List Journal → List (Option Part) → DeskFault → Type 0
IsNotAdmitted books parts Nothing = length parts ≢ length books
IsNotAdmitted books parts (Refused fault) = GoesBy (Some fault) (post_refusal books parts)
