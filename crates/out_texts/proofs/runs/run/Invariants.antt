use Rattle.std.proofs.Common.{◌≡◌, ◌+◌, drop}
use Rattle.out_texts.specs.inner.Groups.{run}
use Rattle.out_texts.specs.Sharing.{same}
use Rattle.out_texts.proofs.runs.run.Given as goal

abbrev pub invariant-loop-point : goal.invariant-loop-point
invariant-loop-point l = record {
  counted : l.count ≡ l.point-index;
  run : l.count + run (same l.level) l.last (drop l.point-index l.others)
      ≡ run (same l.level) l.first l.others;
}
