use Rattle.std.proofs.lemmas.Bool.{eq-eqb}
use Rattle.otlp_protobuf.proofs.histogram_gather.put_numbers.Goals as goal

pub returns-in-Some-Bytes : goal.returns-in-Some-Bytes
returns-in-Some-Bytes c = λ after all is.
    c.put_first.ensures after all
    (rw (c.in-Some-Bytes.is-0, c.in-Some-Bytes.is-1, eq-eqb _ _ c.if-field-number.false) at is)
