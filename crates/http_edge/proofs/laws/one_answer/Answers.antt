use Rattle.http_edge.specs.Answer.{request_form}
use Rattle.http_edge.proofs.AnswerLemmas.{request_laws, reports_too_long}
use Rattle.http_edge.proofs.FormLemmas.{gives}
use Rattle.http_edge.proofs.laws.one_answer.Goals as goal

pub returns : goal.returns
returns c = record { message = gives request_form request_laws; too_long = reports_too_long }
