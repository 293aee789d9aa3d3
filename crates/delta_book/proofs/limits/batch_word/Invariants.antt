use Rattle.std.proofs.Common.{◌≡◌, ◌+◌, ◌*◌, ◌^◌, ◌≤◌, drop}
use Rattle.delta_book.specs.inner.Batches.{word_in}
use Rattle.delta_book.proofs.limits.batch_word.Given as goal

abbrev pub invariant-loop-p : goal.invariant-loop-p
invariant-loop-p l = record {
  few : l.total ≤ l.p-index * 2 ^ 64;
  rest : l.total + word_in l.series l.k (drop l.p-index l.batch) ≡ word_in l.series l.k l.batch;
}
