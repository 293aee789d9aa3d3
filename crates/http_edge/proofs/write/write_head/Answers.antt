use Rattle.std.proofs.Common.{arith}
use Rattle.std.proofs.lemmas.List.{length-append, append-nil}
use Rattle.http_edge.proofs.write.write_head.Goals as goal

pub write_parts-requires : goal.write_parts-requires
write_parts-requires g c = simp length-append (omega arith)

pub returns-clause-text : goal.returns-clause-text
returns-clause-text g c = simp append-nil at c.write_parts.ensures.text
