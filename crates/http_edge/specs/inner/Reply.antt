-- What is found where the head of a response is looked for.
use Rattle.std.specs.Prelude.{◌≢◌, ℕ, ◌≤◌, List, take, Option, Some, None, Result, Ok, Err}
use Rattle.std.specs.Io.KnownBytes.{Consumes}
use Rattle.http_edge.specs.declared.fault.HttpFault.{HttpFault}
use Rattle.http_edge.specs.declared.fault.HttpFault.TheVariants.{NoMemory}
use Rattle.http_edge.specs.declared.reply.Reply.{Reply}
use Rattle.http_edge.specs.declared.limits.TheConstants.{MAX_HEAD}
use Rattle.http_edge.specs.Form.{IsLasting}
use Rattle.http_edge.specs.Reply.{ReplyHead, reply_in, BeginsWithReply, IsReplyOpen, ExplainsReply}

-- what a look for a reply answers
abbrev pub LooksForReply : List ℕ → Result (Option Reply) HttpFault → Type 0
LooksForReply buf (Ok (Some r)) = BeginsWithReply buf (reply_in r)
LooksForReply buf (Ok None) = IsReplyOpen buf
LooksForReply buf (Err e) = IsLasting e × ExplainsReply e buf × (e ≢ NoMemory)

-- so many bytes were read of a source, they are the front of these, and they begin with a head
pub record IsRead (old new : Option (List ℕ)) (len : ℕ) (head : List ℕ) : Type 0 where
  pub within : len ≤ MAX_HEAD
  pub known : Consumes old new (take len head)
  pub begins : (t : ReplyHead) × BeginsWithReply (take len head) t
