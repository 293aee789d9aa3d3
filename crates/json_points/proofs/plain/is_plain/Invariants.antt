use Rattle.std.proofs.Common.{◌≤◌, map, drop}
use Rattle.json.specs.Tape.{node_token}
use Rattle.json_points.specs.inner.Plain.{Plain}
use Rattle.json_points.specs.declared.plain.TheConstants.{MAX_OPEN}
use Rattle.json_points.proofs.plain.is_plain.Given as goal

abbrev pub invariant-loop-node : goal.invariant-loop-node
invariant-loop-node l = record {
  few : l.depth ≤ MAX_OPEN;
  rest : Plain l.depth (map node_token (drop l.node-index l.nodes))
      → Plain 0 (map node_token l.nodes);
}
