use Rattle.std.proofs.Common.{◌≡◌, length, map}
use Rattle.otlp_read.specs.Lists.{all_of}
use Rattle.otlp_read.proofs.ListLemmas.{with_front}
use Rattle.otlp_protobuf.specs.Wire.{fields}
use Rattle.otlp_protobuf.specs.Fields.{numbers}
use Rattle.otlp_protobuf.specs.inner.NumberViews.{numbers_data}
use Rattle.otlp_protobuf.proofs.numbers.numbers_in.Given as goal

abbrev pub invariant-loop-bits : goal.invariant-loop-bits
invariant-loop-bits g l =
    with_front l.found.items (all_of g.T.Number.reads (map g.T.Number.shows (numbers_data l.rest)))
    ≡ all_of g.T.Number.reads
    (map g.T.Number.shows (numbers l.list.number (fields l.list.bytes.now)))

abbrev pub decreases-loop-bits : goal.decreases-loop-bits
decreases-loop-bits g l = length (numbers_data l.rest)
