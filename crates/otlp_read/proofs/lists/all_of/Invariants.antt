use Rattle.std.proofs.Common.{◌≡◌, drop, map}
use Rattle.serde_json.specs.View.{view}
use Rattle.otlp_read.specs.Lists.{all_of}
use Rattle.otlp_read.proofs.ListLemmas.{with_front}
use Rattle.otlp_read.proofs.lists.all_of.Given as goal

abbrev pub invariant-loop-value : goal.invariant-loop-value
invariant-loop-value g l = with_front l.found.items
    (all_of g.T.Element.reads (map view (drop l.value-index l.values)))
    ≡ all_of g.T.Element.reads (map view l.values)
