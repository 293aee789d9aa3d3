-- The law of runs worked out on points, and what its premises exclude.
use Rattle.std.proofs.Common.{◌≡◌, ℕ, ℤ, pos, negsuc, false, true, Some, None, [], ◌∷◌, refl}
use Rattle.service_law.specs.Sums.{Reading, Noted, Counted, More, total}
use Rattle.service_law.specs.Runs.{Options, Since, entries}

-- the folder was made at 100
abbrev plain : Options
plain = record { first = Since; made = 100; forgotten = 0; resets = false; may_fall = false }

abbrev resetting : Options
resetting = record plain { resets = true }

abbrev falling : Options
falling = record plain { may_fall = true }

abbrev read : ℕ → ℕ → ℤ → Reading
read start time value = record { start = start; time = time; words = value ∷ [] }

-- a run that began later counts from its start, an older one from its first point on; a later start
-- is a new run
young : entries plain None (read 150 200 (pos 5) ∷ read 150 300 (pos 9) ∷ [])
    ≡ Counted 150 150 200 (pos 5 ∷ []) ∷ More 200 300 (pos 4 ∷ []) ∷ []
young = refl

old : entries plain None (read 50 120 (pos 40) ∷ read 50 200 (pos 45) ∷ read 210 220 (pos 3) ∷ [])
    ≡ Noted 50 120 (pos 40 ∷ []) ∷ More 120 200 (pos 5 ∷ []) ∷ Counted 210 210 220 (pos 3 ∷ []) ∷ []
old = refl

-- a repeat and an older point add nothing; a start before the last time, and a word that goes down,
-- are refused
repeats : entries plain (Some (read 50 200 (pos 45)))
    (read 50 200 (pos 45) ∷ read 50 180 (pos 43) ∷ read 190 220 (pos 3) ∷ read 50 250 (pos 2) ∷ [])
    ≡ []
repeats = refl

-- but counts from zero with --reset count, and an UpDownCounter's may go down
reset : entries resetting (Some (read 50 200 (pos 45))) (read 50 250 (pos 2) ∷ [])
    ≡ Counted 50 200 250 (pos 2 ∷ []) ∷ []
reset = refl

down : entries falling (Some (read 50 200 (pos 45))) (read 50 250 (pos 2) ∷ [])
    ≡ More 200 250 (negsuc 42 ∷ []) ∷ []
down = refl

-- lost: the first point of an older run, 5 are not counted; the point that began a run anew, 45 are
-- not
lost_first : total 1 (entries plain None (read 50 200 (pos 45) ∷ [])) ≡ pos 0 ∷ []
lost_first = refl

lost_reset : total 1 (entries resetting (Some (read 50 200 (pos 45))) (read 50 300 (pos 50) ∷ []))
    ≡ pos 5 ∷ []
lost_reset = refl

told_reset : total 1 (entries resetting (Some (read 50 200 (pos 45)))
    (read 50 250 (pos 2) ∷ read 50 300 (pos 50) ∷ [])) ≡ pos 50 ∷ []
told_reset = refl

-- a run whose start is not known counts from its first point on, and anew where a word goes down;
-- one that says where it begins but not since when counts from there
unknown : entries plain None (read 0 120 (pos 40) ∷ read 0 200 (pos 45) ∷ read 0 250 (pos 2)
    ∷ read 260 260 (pos 9) ∷ read 260 300 (pos 12) ∷ [])
    ≡ Noted 0 120 (pos 40 ∷ []) ∷ More 120 200 (pos 5 ∷ []) ∷ Counted 0 200 250 (pos 2 ∷ [])
    ∷ Noted 260 260 (pos 9 ∷ []) ∷ More 260 300 (pos 3 ∷ []) ∷ []
unknown = refl
