-- The texts of the program's replies, and which reply a line may get.
use Rattle.std.specs.Prelude.{◌≡◌, ℕ, true, List, map, codes, decimal}
use Rattle.metric_events.specs.History.{History}
use Rattle.delta_book.specs.PastRows.{past_row}
use Rattle.play_script.specs.Commands.{Asked}
use Rattle.play_script.specs.Refused.{refusal_text}
use Rattle.play_script.specs.Replies.{said, batch_and_foreign, flush_text, wired_text}
use Rattle.play_script.specs.Replies.{flush_and_wait}
use Rattle.out_texts.specs.Report.{report_text}
use Rattle.out_texts.specs.Past.{past_text}
use Rattle.play_script.specs.Run.{Mark, marked_answer, may_stand}
use Rattle.play_script.specs.declared.reply.Reply.{Reply}
use Rattle.play_script.specs.declared.reply.Reply.TheVariants.{BadCommand, Refused, Nothing, Batch}
use Rattle.play_script.specs.declared.reply.Reply.TheVariants.{Posted, OnlyForeign, Flushed}
use Rattle.play_script.specs.declared.reply.Reply.TheVariants.{Settled, Returned, Undone, Confirmed}
use Rattle.play_script.specs.declared.reply.Reply.TheVariants.{Dropped, Quarantined, Lifted, Report}
use Rattle.play_script.specs.declared.reply.Reply.TheVariants.{Round, Past, Wired, Waits}

-- the text of a reply
abbrev pub reply_text : Reply → List ℕ
reply_text BadCommand = codes "bad command\n"
reply_text (Refused why) = said (codes "refused ") (refusal_text why)
reply_text Nothing = codes "nothing\n"
reply_text (Batch b) = said (codes "batch ") (decimal b)
reply_text (Posted b foreign) = said (codes "batch ") (batch_and_foreign b foreign)
reply_text (OnlyForeign foreign) = said (codes "nothing foreign ") (decimal foreign)
reply_text (Flushed flush) = flush_text flush.number flush.points
reply_text (Settled f) = said (codes "settled ") (decimal f)
reply_text (Returned f) = said (codes "returned ") (decimal f)
reply_text (Undone b) = said (codes "undone ") (decimal b)
reply_text (Confirmed b) = said (codes "confirmed ") (decimal b)
reply_text (Dropped f) = said (codes "dropped ") (decimal f)
reply_text (Quarantined s) = said (codes "held ") s.now
reply_text (Lifted s) = said (codes "lifted ") s.now
reply_text (Report rows) = report_text rows.items
reply_text (Round n) = said (codes "round ") (decimal n)
reply_text (Past rows) = past_text (map past_row rows.items)
reply_text (Wired f request) = wired_text f request.items
reply_text (Waits f seconds) = said (codes "returned ") (flush_and_wait f seconds)

-- this text and this history are the command's answer, for this mark
pub record IsMarkedReply (E : History) (asked : Asked) (text : List ℕ) (F : History)
    (mark : Mark) : Type 0 where
  pub allowed : may_stand mark asked ≡ true
  pub text_is : text ≡ (marked_answer E asked mark).text
  pub after_is : F ≡ (marked_answer E asked mark).after

-- for some mark
abbrev pub IsReply : History → Asked → List ℕ → History → Type 0
IsReply E asked text F = (mark : Mark) × IsMarkedReply E asked text F mark
