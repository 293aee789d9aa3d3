-- What the program's values are in the definitions.
use Rattle.std.specs.Prelude.{◌≡◌, ℕ, ◌<◌, ◌≤◌, List, [], map, Some, None, true, Vec, vec_len, ⊤}
use Rattle.metric_events.specs.Senders.{is_sender_name}
use Rattle.std.specs.declared.option.Option.{Option}
use Rattle.std.specs.declared.alloc.Global.{Global}
use denote.Ref.{Bor}
use Rattle.play_script.specs.Pieces.{words}
use Rattle.play_script.specs.PointLines.{PointWords, point_words}
use Rattle.play_script.specs.Commands.{Asked, AdmitLine, TakeLine, EndLine, ReportLine, UndoLine}
use Rattle.play_script.specs.Commands.{ConfirmLine, QuarantineLine, LiftLine, PostLine, RoundLine}
use Rattle.play_script.specs.Commands.{PastLine, WireLine, BadLine}
use Rattle.metric_events.specs.declared.limits.TheConstants.{MAX_TAKEN}
use Rattle.play_script.specs.declared.point_line.PointLine.{PointLine}
use Rattle.play_script.specs.declared.command.Command.{Command}
use Rattle.play_script.specs.declared.command.Command.TheVariants.{Admit, Take, End, Report}
use Rattle.play_script.specs.declared.command.Command.TheVariants.{Undo, Confirm, Quarantine, Lift}
use Rattle.play_script.specs.declared.command.Command.TheVariants.{Post, Round, Past, Wire}

abbrev pub words_of : PointLine → PointWords
words_of p = record { name = p.name.now; start = p.start; end = p.end; value = p.value }

abbrev pub words_of_each : List PointLine → List PointWords
words_of_each points = map words_of points

-- these are the points that were asked for, at least one
abbrev pub AreRead : Option (Vec PointLine Global) → Option (List PointWords) → Type 0
AreRead None asked = asked ≡ None
AreRead (Some points) asked = (asked ≡ Some (words_of_each points.items)) × (0 < vec_len points)

-- the words of the rest of a line, where there is one
abbrev pub rest_words : Option (Bor (List ℕ)) → List (List ℕ)
rest_words None = []
rest_words (Some rest) = words rest.now

-- the points of the rest, where there is one
abbrev pub points_after : Option (Bor (List ℕ)) → Option (List PointWords)
points_after rest = point_words (rest_words rest)

-- what a command asks for
abbrev pub asked_by : Option Command → Asked
asked_by None = BadLine
asked_by (Some (Admit sender points)) = AdmitLine sender.now (words_of_each points.items)
asked_by (Some (Take max)) = TakeLine max
asked_by (Some (End flush by wait)) = EndLine flush by wait
asked_by (Some Report) = ReportLine
asked_by (Some (Undo batch)) = UndoLine batch
asked_by (Some (Confirm batch)) = ConfirmLine batch
asked_by (Some (Quarantine sender)) = QuarantineLine sender.now
asked_by (Some (Lift sender)) = LiftLine sender.now
asked_by (Some (Post sender body)) = PostLine sender.now body.now
asked_by (Some Round) = RoundLine
asked_by (Some Past) = PastLine
asked_by (Some (Wire max)) = WireLine max

-- the parts of a command are in their ranges
abbrev pub IsReady : Option Command → Type 0
IsReady (Some (Admit sender points)) = (is_sender_name sender.now ≡ true) × (0 < vec_len points)
IsReady (Some (Take max)) = (1 ≤ max) × (max ≤ MAX_TAKEN)
IsReady (Some (Wire max)) = (1 ≤ max) × (max ≤ MAX_TAKEN)
IsReady (Some (Quarantine sender)) = is_sender_name sender.now ≡ true
IsReady (Some (Lift sender)) = is_sender_name sender.now ≡ true
IsReady (Some (Post sender body)) = is_sender_name sender.now ≡ true
IsReady other = ⊤
