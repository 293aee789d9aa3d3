use Rattle.http_edge.proofs.AnswerLemmas.{message_has_bytes, size_has_bytes}
use Rattle.http_edge.proofs.Unique.{one_message, not_both}
use Rattle.http_edge.proofs.laws.one_message.Goals as goal

pub returns : goal.returns
returns c = record {
  unique = one_message;
  exclusive = not_both;
  some =
      message_has_bytes;
  some_too_long = size_has_bytes;
}
