use Rattle.http_edge.specs.Answer.{request_form}
use Rattle.http_edge.proofs.AnswerLemmas.{request_laws, reports_size}
use Rattle.http_edge.proofs.FormLemmas.{delivers, closed_at_no_byte}
use Rattle.http_edge.proofs.laws.one_reading.Goals as goal

pub returns : goal.returns
returns c = record {
  message = delivers request_form request_laws;
  too_long = reports_size;
  closed =
      closed_at_no_byte request_form request_laws;
}
