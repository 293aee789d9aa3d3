use Rattle.http_edge.specs.Reply.{reply_form}
use Rattle.http_edge.proofs.FormLemmas.{delivers, closed_at_no_byte}
use Rattle.http_edge.proofs.ReplyLemmas.{one_reply, reply_laws}
use Rattle.http_edge.proofs.laws.one_reply.Goals as goal

pub returns : goal.returns
returns c = record {
  unique = one_reply;
  reading = delivers reply_form reply_laws;
  closed =
      closed_at_no_byte reply_form reply_laws;
}
