-- Which of the four a handle keeps, and what is in it.
use Rattle.std.specs.Prelude.{◌≢◌, ℕ, List, [], Option}
use Rattle.std.specs.Ptr.{null_ptr}
use Rattle.series_id.specs.Identity.{Identity}
use Rattle.delta_book.specs.Journal.{Journal}
use Rattle.delta_book.specs.declared.flush.Flush.{Flush}
use Rattle.book_desk.specs.declared.part.Part.{Part}
use Rattle.book_c.specs.declared.handle.Handle.{Handle}
use Rattle.book_c.specs.declared.kept.Kept.{Kept}
use Rattle.book_c.specs.declared.kept.Kept.TheVariants.{Reader, Desk, Flushes, Names}

abbrev pub IsReader : Kept → Type 0
IsReader (Reader it) = Unit {0}
IsReader it = ⊥

abbrev pub IsDesk : Kept → Type 0
IsDesk (Desk it) = Unit {0}
IsDesk it = ⊥

abbrev pub IsFlushes : Kept → Type 0
IsFlushes (Flushes it) = Unit {0}
IsFlushes it = ⊥

abbrev pub IsNames : Kept → Type 0
IsNames (Names it) = Unit {0}
IsNames it = ⊥

-- a live handle of a reader, of a desk, of flushes, of names
abbrev pub HasReader : Handle → Type 0
HasReader h = (h.at ≢ null_ptr) × IsReader h.kept

abbrev pub HasDesk : Handle → Type 0
HasDesk h = (h.at ≢ null_ptr) × IsDesk h.kept

abbrev pub HasFlushes : Handle → Type 0
HasFlushes h = (h.at ≢ null_ptr) × IsFlushes h.kept

abbrev pub HasNames : Handle → Type 0
HasNames h = (h.at ≢ null_ptr) × IsNames h.kept

-- the parts of the post that a reader has
abbrev pub parts_of : Kept → List (Option Part)
parts_of (Reader it) = it
parts_of it = []

-- the journals of a desk's books
abbrev pub books_of : Kept → List Journal
books_of (Desk it) = it.books.items
books_of it = []

-- the flushes that are not ended
abbrev pub flushes_of : Kept → List (Option Flush)
flushes_of (Flushes it) = it.flushes.items
flushes_of it = []

-- the text that was written last
abbrev pub text_of : Kept → List ℕ
text_of (Flushes it) = it.text.items
text_of it = []

-- the series that have numbers
abbrev pub names_of : Kept → List Identity
names_of (Names it) = it
names_of it = []
