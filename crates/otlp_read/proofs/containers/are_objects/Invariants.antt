use Rattle.std.proofs.Common.{◌≡◌, drop, map}
use Rattle.std.specs.List.{list_all}
use Rattle.serde_json.specs.View.{view}
use Rattle.otlp_read.specs.Containers.{is_object}
use Rattle.otlp_read.proofs.containers.are_objects.Given as goal

abbrev pub invariant-loop-value : goal.invariant-loop-value
invariant-loop-value l = list_all is_object (map view (drop l.value-index l.list))
    ≡ list_all is_object (map view l.list)
