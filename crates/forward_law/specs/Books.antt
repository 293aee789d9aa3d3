-- What the bytes say that forward a post in protobuf which went through many books.
use Rattle.std.specs.Prelude.{◌≡◌, ℕ, List, length, Option, Some, Ok}
use Rattle.delta_book.specs.Journal.{Journal}
use Rattle.delta_book.specs.declared.flush.Flush.{Flush}
use Rattle.metric_events.specs.declared.limits.TheConstants.{MAX_TAKEN}
use Rattle.otlp_read.specs.Tallies.{Tally}
use Rattle.otlp_protobuf.specs.Reading.{bytes_reading}
use Rattle.out_texts.specs.Back.{ReadsBack}
use Rattle.book_desk.specs.Each.{Each}
use Rattle.book_desk.specs.Posts.{Keeps}
use Rattle.book_desk.specs.Reads.{IsKept}
use Rattle.book_desk.specs.Takes.{Takes, nth}
use Rattle.book_desk.specs.declared.draft.Counts.{Counts}
use Rattle.book_desk.specs.declared.part.Part.{Part}
use Rattle.book_desk.specs.declared.window.Window.{Window}

-- the bytes are a request, whose points that end within the window are split over the books; each
-- book has admitted its part, for good; then a flush was taken of each that has something, of as
-- many series as there may be; and read back the text has just the points of the i-th flush
pub record IsForwarded (old new : List Journal) (sender bytes : List ℕ) (window : Window) (i : ℕ)
    (text : List ℕ) : Type 0 where
  pub post : Tally
  pub said : bytes_reading bytes ≡ Ok (Ok post)
  pub counts : Counts
  pub parts : List (Option Part)
  pub split : IsKept (length old) sender window post counts parts
  pub between : List Journal
  pub admitted : Each Keeps old between parts
  pub flushes : List (Option Flush)
  pub taken : Each (Takes MAX_TAKEN) between new flushes
  pub flush : Flush
  pub found : nth flushes i ≡ Some flush
  pub back : ReadsBack text flush.points
