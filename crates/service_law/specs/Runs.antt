-- What becomes of the cumulative points of one series, and what is kept of it.
use Rattle.std.specs.Prelude.{◌≡◌, ℕ, ℤ, ◌<◌, ◌≤◌, ◌==◌, ◌||◌, Bool, true, false, not, ◌&&◌}
use Rattle.std.specs.Prelude.{List, [], ◌∷◌, ◌++◌, length, nat_le, nat_lt, int_lt}
use Rattle.std.specs.Prelude.{if◌then◌else◌, Some, None, Option}
use Rattle.std.specs.Option.{option_to_list}
use Rattle.service_law.specs.Sums.{Entry, Noted, Counted, More, Reading, entry_time, time_of, zeros}
use Rattle.service_law.specs.Sums.{plus, minus}

-- which first points count from their start: none, all, or those of runs that began when the folder
-- was made, or later
pub data First : Type 0 where
  Never Always Since : First

-- the same with the time of the folder, and the time from which on no series was forgotten; whether
-- a run begins anew where a word goes down; whether words may go down, as those of an UpDownCounter
pub record Options : Type 0 where
  pub first : First
  pub made : ℕ
  pub forgotten : ℕ
  pub resets : Bool
  pub may_fall : Bool

-- a point of n words, of a time; its start is 0 where it is not known
pub record IsReading (n : ℕ) (p : Reading) : Type 0 where
  pub time : 0 < p.time
  pub span : p.start ≤ p.time
  pub long : length p.words ≡ n

-- nothing is kept of the series yet, or its last point
abbrev pub IsState : ℕ → Option Reading → Type 0
IsState n None = Unit {0}
IsState n (Some q) = IsReading n q

-- it ends where it begins: its run began earlier, nobody knows when
abbrev pub is_instant : Reading → Bool
is_instant p = p.start == p.time

abbrev pub is_since : First → ℕ → ℕ → Bool
is_since Never made start = false
is_since Always made start = true
is_since Since made start = nat_le made start

-- a first point counts from its start
abbrev pub counts_first : Options → Reading → Bool
counts_first o p =
    (nat_lt 0 p.start && nat_le o.forgotten p.start)
    && (is_since o.first o.made p.start && not (is_instant p))

-- some word is less than it was
abbrev pub is_below : List ℤ → List ℤ → Bool
is_below [] ys = false
is_below (x ∷ xs) [] = false
is_below (x ∷ xs) (y ∷ ys) = int_lt y x || is_below xs ys

-- the words went down, where they may not
abbrev pub goes_down : Options → List ℤ → List ℤ → Bool
goes_down o old new = not o.may_fall && is_below old new

-- a point of the run of q, later than q: the difference, over the time since q. If a word went
-- down: all of it, as of a new run, or it is refused. A run whose start is not known begins anew so
abbrev pub entry_of_run : Options → Reading → Reading → Bool → Option Entry
entry_of_run o q p false = Some (More q.time p.time (minus p.words q.words))
entry_of_run o q p true =
    if o.resets || p.start == 0 then Some (Counted p.start q.time p.time p.words) else None

-- one of a run that began when q was read, or later: all of it
abbrev pub entry_of_next : Reading → Option Entry
entry_of_next p =
    if is_instant p then Some (Noted p.start p.time p.words)
    else Some (Counted p.start p.start p.time p.words)

-- What a point adds to the journal, where nothing was kept, or q was. An equal or older time:
-- nothing. Else as above; one of another run that began before q was read is refused
abbrev pub entry : Options → Option Reading → Reading → Option Entry
entry o None p =
    if counts_first o p then Some (Counted p.start p.start p.time p.words)
    else Some (Noted p.start p.time p.words)
entry o (Some q) p =
    if nat_le p.time q.time then None
    else (if p.start == q.start then entry_of_run o q p (goes_down o q.words p.words)
    else (if nat_le q.time p.start then entry_of_next p else None))

-- what is kept after it: a point that is taken
abbrev pub kept : Option Entry → Option Reading → Reading → Option Reading
kept None s p = s
kept (Some e) s p = Some p

abbrev pub after : Options → Option Reading → Reading → Option Reading
after o s p = kept (entry o s p) s p

-- after these points, in the order in which they came: what is kept; what the journal has got
abbrev pub latest : Options → Option Reading → List Reading → Option Reading
latest o s [] = s
latest o s (p ∷ ps) = latest o (after o s p) ps

abbrev pub entries : Options → Option Reading → List Reading → List Entry
entries o s [] = []
entries o s (p ∷ ps) = option_to_list (entry o s p) ++ entries o (after o s p) ps

-- a point before these, if it is taken; those that are taken
abbrev pub noted : Option Entry → Reading → List Reading → List Reading
noted None p ps = ps
noted (Some e) p ps = p ∷ ps

abbrev pub taken : Options → Option Reading → List Reading → List Reading
taken o s [] = []
taken o s (p ∷ ps) = noted (entry o s p) p (taken o (after o s p) ps)

-- the next of the points that were taken is of the same run
abbrev pub continues : Options → Reading → Reading → Bool
continues o q p = p.start == q.start && not (goes_down o q.words p.words)

-- the words of the last point of each run
abbrev pub lasts : Options → List Reading → List (List ℤ)
lasts o [] = []
lasts o (q ∷ []) = q.words ∷ []
lasts o (q ∷ p ∷ ps) = if continues o q p then lasts o (p ∷ ps) else q.words ∷ lasts o (p ∷ ps)

-- the words from which each run was counted: those of its first point, or nothing
abbrev pub base : ℕ → Bool → Reading → List ℤ
base n is_counted p = if is_counted then zeros n else p.words

abbrev pub bases_behind : ℕ → Options → Reading → List Reading → List (List ℤ)
bases_behind n o q [] = []
bases_behind n o q (p ∷ ps) =
    if continues o q p then bases_behind n o p ps
    else base n (not (is_instant p)) p ∷ bases_behind n o p ps

abbrev pub bases : ℕ → Options → List Reading → List (List ℤ)
bases n o [] = []
bases n o (p ∷ ps) = base n (counts_first o p) p ∷ bases_behind n o p ps

-- what is kept behind an entry that is not in it already: a run's start and words, as it says, or
-- what it adds to them
abbrev pub moved : Option Reading → Entry → Option Reading
moved s (Noted start time words) = Some (record { start = start; time = time; words = words })
moved s (Counted start from time words) =
    Some (record { start = start; time = time; words = words })
moved None (More from time words) = None
moved (Some q) (More from time words) =
    Some (record { start = q.start; time = time; words = plus words q.words })

abbrev pub replayed : Option Reading → List Entry → Option Reading
replayed s [] = s
replayed s (e ∷ es) = replayed (if nat_le (entry_time e) (time_of s) then s else moved s e) es

-- p does not begin a run from an unknown time, nor one that began again with it
abbrev pub ToldApart : Options → Option Reading → Reading → Type 0
ToldApart o None p = counts_first o p ≡ true
ToldApart o (Some q) p =
    (is_instant p ≡ false)
    × ((goes_down o q.words p.words && (o.resets || p.start == 0)) ≡ false)
