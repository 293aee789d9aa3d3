use Rattle.otlp_protobuf.proofs.Texts.{text_there, text_absent}
use Rattle.otlp_protobuf.proofs.scan.if_text.Goals as goal

pub returns-in-Ok : goal.returns-in-Ok
returns-in-Ok c = text_there _ _ c.in-Ok.ensures.cases.0 c.in-Ok.ensures.cases.1

pub returns-in-Err : goal.returns-in-Err
returns-in-Err c = text_absent _ c.in-Err.ensures.cases.0
