-- Why a command is refused.
use Rattle.std.specs.Prelude.{ℕ, List, ◌++◌, codes, decimal}
use Rattle.delta_book.specs.declared.faults.AdmitFault.{AdmitFault}
use Rattle.delta_book.specs.declared.faults.AdmitFault.TheVariants as admit
use Rattle.delta_book.specs.declared.faults.UndoFault.{UndoFault}
use Rattle.delta_book.specs.declared.faults.UndoFault.TheVariants as undo
use Rattle.delta_book.specs.declared.faults.TakeFault.{TakeFault}
use Rattle.delta_book.specs.declared.faults.TakeFault.TheVariants as take
use Rattle.delta_book.specs.declared.faults.QuarantineFault.{QuarantineFault}
use Rattle.delta_book.specs.declared.faults.QuarantineFault.TheVariants as hold
use Rattle.delta_book.specs.declared.faults.RoundFault.{RoundFault}
use Rattle.delta_book.specs.declared.faults.RoundFault.TheVariants as round
use Rattle.metric_events.specs.declared.point.PointFault.{PointFault}
use Rattle.metric_events.specs.declared.point.PointFault.TheVariants as point
use Rattle.otlp_read.specs.declared.fault.ReadFault.{ReadFault}
use Rattle.otlp_read.specs.declared.fault.ReadFault.TheVariants as read
use Rattle.play_script.specs.declared.refusal.Refusal.{Refusal}
use Rattle.play_script.specs.declared.refusal.Refusal.TheVariants.{Point, Read, Admit, Undo, Round}
use Rattle.play_script.specs.declared.refusal.Refusal.TheVariants.{Take, Quarantine, NotQuarantined}
use Rattle.play_script.specs.declared.refusal.Refusal.TheVariants.{NotOpen, NotLive, NoMemory}

abbrev pub point_text : PointFault → List ℕ
point_text point.BadSpan = codes "bad-span"
point_text point.NegativeMonotonic = codes "point-too-large"
point_text point.BucketMismatch = codes "point-too-large"
point_text point.TooLarge = codes "point-too-large"
point_text point.NoMemory = codes "no-memory"

abbrev pub read_text : ReadFault → List ℕ
read_text read.NotJson = codes "not-json"
read_text (read.WrongShape place) = codes "wrong-shape"
read_text read.NoMemory = codes "no-memory"

-- a point's index, and the frontier of its series
abbrev pub place_text : ℕ → ℕ → List ℕ
place_text i frontier = decimal i ++ codes " " ++ decimal frontier

-- a point is named by its index in its batch, from 0
abbrev pub admit_text : AdmitFault → List ℕ
admit_text admit.Quarantined = codes "quarantined"
admit_text admit.Full = codes "full"
admit_text (admit.OtherWriter i) = codes "other-writer " ++ decimal i
admit_text (admit.OutOfOrder i frontier) = codes "out-of-order " ++ place_text i frontier
admit_text admit.TooManySeries = codes "too-many-series"
admit_text admit.TooLarge = codes "too-large"
admit_text admit.NoMemory = codes "no-memory"

abbrev pub take_text : TakeFault → List ℕ
take_text take.Full = codes "full"
take_text take.NoMemory = codes "no-memory"

abbrev pub undo_text : UndoFault → List ℕ
undo_text undo.NotOpen = codes "not-open"
undo_text undo.Taken = codes "taken"

abbrev pub quarantine_text : QuarantineFault → List ℕ
quarantine_text hold.Already = codes "already"
quarantine_text hold.Full = codes "full"
quarantine_text hold.NoMemory = codes "no-memory"

abbrev pub round_text : RoundFault → List ℕ
round_text round.BatchOpen = codes "batch-open"
round_text round.FlushLive = codes "flush-live"
round_text round.LastRound = codes "last-round"
round_text round.NoMemory = codes "no-memory"

abbrev pub refusal_text : Refusal → List ℕ
refusal_text (Point fault) = point_text fault
refusal_text (Read fault) = read_text fault
refusal_text (Admit fault) = admit_text fault
refusal_text (Take fault) = take_text fault
refusal_text (Undo fault) = undo_text fault
refusal_text (Quarantine fault) = quarantine_text fault
refusal_text (Round fault) = round_text fault
refusal_text NotOpen = codes "not-open"
refusal_text NotLive = codes "not-live"
refusal_text NotQuarantined = codes "not-held"
refusal_text NoMemory = codes "no-memory"
