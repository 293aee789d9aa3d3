-- What the program's value of an ask is in the definitions.
use Rattle.gate_workers.specs.declared.request.Ask.{Ask}
use Rattle.gate_workers.specs.declared.request.Ask.TheVariants as ask
use Rattle.gate_workers.specs.Requested.{Requested, Metrics, Quarantine, Lift, FlushNow, Report}
use Rattle.gate_workers.specs.Requested.{Refused}

abbrev pub shown : Ask → Requested
shown (ask.Metrics body text) = Metrics body text.items
shown (ask.Quarantine sender) = Quarantine sender
shown (ask.Lift sender) = Lift sender
shown ask.FlushNow = FlushNow
shown ask.Report = Report
shown (ask.Refused why) = Refused why
