use Rattle.std.proofs.Common.{sym}
use Rattle.otlp_protobuf.proofs.streams.series_of.Goals as goal

pub returns-in-Some : goal.returns-in-Some
returns-in-Some c = sym (c.requires c.in-Some.series c.in-Some.is)
