use Rattle.std.proofs.Common.{◌≡◌, length, map}
use Rattle.otlp_read.specs.Lists.{all_of}
use Rattle.otlp_read.proofs.ListLemmas.{with_front}
use Rattle.otlp_protobuf.specs.Wire.{fields}
use Rattle.otlp_protobuf.specs.Fields.{contents}
use Rattle.otlp_protobuf.specs.inner.Views.{fields_data}
use Rattle.otlp_protobuf.proofs.lists.all_of.Given as goal

abbrev pub invariant-loop-content : goal.invariant-loop-content
invariant-loop-content g l =
    with_front l.found.items
    (all_of g.T.Element.reads (map g.T.Element.shows (contents l.number (fields_data l.rest))))
    ≡ all_of g.T.Element.reads (map g.T.Element.shows (contents l.number (fields l.bytes)))

abbrev pub decreases-loop-content : goal.decreases-loop-content
decreases-loop-content g l = length (contents l.number (fields_data l.rest))
