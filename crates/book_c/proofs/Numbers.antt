-- What crosses by number: the service has the same numbers, and the limits that it keeps are these.
use Rattle.std.specs.Prelude.{◌≡◌, refl, ℕ, List, ◌∷◌, []}
use Rattle.series_id.specs.declared.limits.TheConstants.{MAX_TEXT, MAX_ATTRIBUTES, MAX_VALUES}
use Rattle.series_id.specs.declared.limits.TheConstants.{MAX_BOUNDS, MAX_BOUND}
use Rattle.metric_events.specs.declared.limits.TheConstants.{MAX_SERIES, MAX_OPEN, MAX_LIVE}
use Rattle.metric_events.specs.declared.limits.TheConstants.{MAX_HELD, MAX_TAKEN, MAX_ENTRIES}
use Rattle.metric_events.specs.declared.limits.TheConstants.{MAX_POINTS, MAX_AMOUNT, MAX_SUM}
use Rattle.metric_events.specs.declared.limits.TheConstants.{MAX_BUCKET, MAX_COUNT, MAX_SENDER}
use Rattle.delta_book.specs.declared.opening.TheConstants.{LAST_ROUND}
use Rattle.book_c.specs.declared.statuses.TheConstants.{DONE, QUARANTINED, FULL, OTHER_WRITER}
use Rattle.book_c.specs.declared.statuses.TheConstants.{OUT_OF_ORDER, TOO_MANY_SERIES, TOO_LARGE}
use Rattle.book_c.specs.declared.statuses.TheConstants.{NO_MEMORY, BAD_SENDER, NOT_JSON}
use Rattle.book_c.specs.declared.statuses.TheConstants.{WRONG_SHAPE, NOTHING, NO_SUCH, ALREADY}
use Rattle.book_c.specs.declared.statuses.TheConstants.{NOT_QUARANTINED, NOT_ENDED}
use Rattle.book_c.specs.declared.statuses.TheConstants.{NONE_CROSSES, TOO_SHORT, NOT_PROTOBUF}

-- each status has a number of its own
abbrev pub statuses : List ℕ
statuses =
    DONE ∷ QUARANTINED ∷ FULL ∷ OTHER_WRITER ∷ OUT_OF_ORDER ∷ TOO_MANY_SERIES ∷ TOO_LARGE
    ∷ NO_MEMORY ∷ BAD_SENDER ∷ NOT_JSON ∷ WRONG_SHAPE ∷ NOTHING ∷ NO_SUCH ∷ ALREADY
    ∷ NOT_QUARANTINED ∷ NOT_ENDED ∷ NONE_CROSSES ∷ TOO_SHORT ∷ NOT_PROTOBUF ∷ []

pub statuses_are :
    statuses ≡ 0 ∷ 1 ∷ 2 ∷ 3 ∷ 4 ∷ 5 ∷ 6 ∷ 7 ∷ 8 ∷ 9 ∷ 10 ∷ 11 ∷ 12 ∷ 13 ∷ 14 ∷ 15 ∷ 17 ∷ 18
    ∷ 19 ∷ []
statuses_are = refl

-- of an identity: bytes of a text, attributes of a set, values of a list, bounds of a histogram,
-- the greatest bound
pub identities_end_at :
    MAX_TEXT ∷ MAX_ATTRIBUTES ∷ MAX_VALUES ∷ MAX_BOUNDS ∷ MAX_BOUND ∷ []
    ≡ 4096 ∷ 128 ∷ 128 ∷ 255 ∷ 9007199254740992 ∷ []
identities_end_at = refl

-- of a book: series, open batches, live flushes, quarantined senders, series of a flush, entries
-- of its journal, rounds
pub books_end_at :
    MAX_SERIES ∷ MAX_OPEN ∷ MAX_LIVE ∷ MAX_HELD ∷ MAX_TAKEN ∷ MAX_ENTRIES ∷ LAST_ROUND ∷ []
    ≡ 10000 ∷ 1024 ∷ 64 ∷ 1000 ∷ 1000 ∷ 65536 ∷ 4294967295 ∷ []
books_end_at = refl

-- of a series: its points in a round, its amount, the sum of a histogram, a bucket, its count;
-- bytes of a sender's name
pub series_end_at :
    MAX_POINTS ∷ MAX_AMOUNT ∷ MAX_SUM ∷ MAX_BUCKET ∷ MAX_COUNT ∷ MAX_SENDER ∷ []
    ≡ 1099511627775 ∷ 9223372036854775807 ∷ 9007199254740992 ∷ 18446744073709551615
    ∷ 18446744073709551615 ∷ 64 ∷ []
series_end_at = refl
