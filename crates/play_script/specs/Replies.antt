-- The texts of replies.
use Rattle.std.specs.Prelude.{ℕ, List, [], ◌∷◌, ◌++◌, codes, decimal, length, flat_map}
use Rattle.metric_events.specs.DataPoint.{DataPoint}
use Rattle.metric_events.specs.Interval.{Interval}
use Rattle.out_texts.specs.Rows.{row_text}
use Rattle.out_texts.specs.SeriesNames.{series_name}

-- a word and a text, on a line
unfoldable pub said : List ℕ → List ℕ → List ℕ
said word what = word ++ what ++ 10 ∷ []

-- a batch's number, and the count of foreign points
unfoldable pub batch_and_foreign : ℕ → ℕ → List ℕ
batch_and_foreign batch foreign = decimal batch ++ codes " foreign " ++ decimal foreign

-- the covering span, without its start and with its end
unfoldable pub span_text : Interval → List ℕ
span_text span = codes " (" ++ decimal span.start ++ codes "," ++ decimal span.end ++ codes "] "

-- a point of a flush: its series, its span, its row
unfoldable pub point_line : DataPoint → List ℕ
point_line p =
    codes "point " ++ series_name p.series ++ span_text p.span ++ row_text p.row ++ codes "\n"

-- a flush with its points
unfoldable pub flush_text : ℕ → List DataPoint → List ℕ
flush_text number points =
    codes "flush " ++ decimal number ++ codes " points " ++ decimal (length points) ++ codes "\n"
    ++ flat_map point_line points

-- a line with the number of a flush, and a line with the request that forwards it
unfoldable pub wired_text : ℕ → List ℕ → List ℕ
wired_text number request = said (codes "flush ") (decimal number) ++ request ++ codes "\n"

-- a flush that was given back, and how many seconds the back end asks to wait
unfoldable pub flush_and_wait : ℕ → ℕ → List ℕ
flush_and_wait flush seconds = decimal flush ++ codes " after " ++ decimal seconds
