use Rattle.std.proofs.Common.{inl}
use Rattle.http_edge.specs.Request.{message_in}
use Rattle.gate_workers.specs.inner.Shown.{shown}
use Rattle.gate_workers.proofs.Hearing.{unasked, heard_fault, heard_message, heard_without_memory}
use Rattle.gate_workers.proofs.Pacing.{whole}
use Rattle.gate_workers.proofs.service.listen.Goals as goal

pub returns-in-Err-clause-heard : goal.returns-in-Err-clause-heard
returns-in-Err-clause-heard g c = rw c.heard_of.ensures
    (heard_fault (g.S.Source.remaining c.args.reader.now) c.in-Err.fault c.in-Err.ensures.says)

pub returns-in-Ok-ask_of-clause-heard : goal.returns-in-Ok-ask_of-clause-heard
returns-in-Ok-ask_of-clause-heard g c =
    heard_message (g.S.Source.remaining c.args.reader.now) (message_in c.in-Ok.request)
    (shown c.in-Ok-ask_of.ask) c.in-Ok.ensures.says c.in-Ok-ask_of.ensures

pub returns-in-Err-ask_of-clause-heard : goal.returns-in-Err-ask_of-clause-heard
returns-in-Err-ask_of-clause-heard g c =
    heard_without_memory (g.S.Source.remaining c.args.reader.now) (message_in c.in-Ok.request)
    c.in-Ok.ensures.says

pub returns-in-Ok-ask_of-clause-paced : goal.returns-in-Ok-ask_of-clause-paced
returns-in-Ok-ask_of-clause-paced g c =
    inl (
      whole (g.S.Source.remaining c.args.reader.now) (message_in c.in-Ok.request)
          c.in-Ok.ensures.says,
      c.at.ensures,
    )

pub returns-in-Err-ask_of-clause-paced : goal.returns-in-Err-ask_of-clause-paced
returns-in-Err-ask_of-clause-paced g c =
    inl (
      whole (g.S.Source.remaining c.args.reader.now) (message_in c.in-Ok.request)
          c.in-Ok.ensures.says,
      c.at.ensures,
    )

pub returns-in-Err-clause-paced : goal.returns-in-Err-clause-paced
returns-in-Err-clause-paced g c = rw c.heard_of.ensures
    (unasked g.P.Pace.reaches (g.S.Source.remaining c.args.reader.now) c.in-Err.fault
    c.args.pace.now c.in-Err.ensures.says)
