-- The texts of a flush and of a book, and the number of all series.
use Rattle.std.specs.Prelude.{◌≡◌, ◌≢◌, ℕ, ◌+◌, ◌-◌, ◌^◌, ◌<◌, ◌≤◌, min}
use Rattle.std.specs.Prelude.{List, length, map, get_or, fold}
use Rattle.std.specs.Prelude.{Option, Some, None, true}
use Rattle.std.specs.List.{All}
use Rattle.metric_events.specs.Series.{is_ascending}
use Rattle.metric_events.specs.Standing.{standing}
use Rattle.delta_book.specs.Journal.{Journal, history}
use Rattle.delta_book.specs.Totals.{totals_rows, IsBalanced}
use Rattle.delta_book.specs.declared.flush.Flush.{Flush}
use Rattle.out_texts.specs.Back.{ReadsBack}
use Rattle.out_texts.specs.Once.{HasEachOnce}
use Rattle.out_texts.specs.Report.{report_text}
use Rattle.out_texts.specs.Request.{request_text}
use Rattle.book_desk.specs.declared.flushes.TextFault.{TextFault}
use Rattle.book_desk.specs.declared.flushes.TextFault.TheVariants.{NoSuch, NoMemory}
use Rattle.book_desk.specs.declared.flushes.Written.{Written}
use Rattle.book_desk.specs.Takes.{nth}

-- the bytes are the request that forwards a flush: read back they say each of its points, in order,
-- and nothing else; and of points in series order no resource, scope or metric twice
pub record IsRequest (bytes : List ℕ) (w : Written) (flush : Flush) : Type 0 where
  pub text : bytes ≡ request_text flush.points
  pub back : ReadsBack bytes flush.points
  pub once : is_ascending (map (λ p. p.series) flush.points) ≡ true → HasEachOnce flush.points
  pub size : w.bytes ≡ length bytes
  pub series : w.series ≡ length flush.points

-- the bytes are that of the i-th flush
abbrev pub IsForwarded : List (Option Flush) → ℕ → List ℕ → Written → Type 0
IsForwarded flushes i bytes w =
    (flush : Flush) × (nth flushes i ≡ Some flush) × IsRequest bytes w flush

-- why the request is not written: there is no such flush, or memory ran out
abbrev pub IsNotForwarded : List (Option Flush) → ℕ → TextFault → Type 0
IsNotForwarded flushes i NoSuch = nth flushes i ≡ None
IsNotForwarded flushes i NoMemory = nth flushes i ≢ None

-- the bytes are the report of the i-th book; in each of its rows, what became of the points adds up
-- to what was accepted
pub record IsReported (books : List Journal) (i : ℕ) (bytes : List ℕ) (n : ℕ) : Type 0 where
  pub found : i < length books
  pub text : (d : Journal) → bytes ≡ report_text (totals_rows (history (get_or books i d)))
  pub balanced : (d : Journal) → All IsBalanced (totals_rows (history (get_or books i d)))
  pub size : n ≡ length bytes

-- why a report is not written
abbrev pub IsNotReported : List Journal → ℕ → TextFault → Type 0
IsNotReported books i NoSuch = length books ≤ i
IsNotReported books i NoMemory = i < length books

-- how many series a book has, and all books; a count of 64 bits stops at its largest value
abbrev pub series_of : Journal → ℕ
series_of book = length (standing (history book)).series

abbrev pub and_series : ℕ → Journal → ℕ
and_series n book = min (n + series_of book) (2 ^ 64 - 1)

abbrev pub all_series : List Journal → ℕ
all_series books = fold and_series 0 books
