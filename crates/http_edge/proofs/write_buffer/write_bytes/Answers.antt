use Rattle.std.proofs.Common.{arith, ◌≤◌, length, drop}
use Rattle.std.proofs.lemmas.List.{take_rest, length-drop}
use Rattle.http_edge.proofs.WriteLemmas.{more_taken}
use Rattle.http_edge.proofs.write_buffer.write_bytes.Goals as goal

pub loop-at-preserved : goal.loop-at-preserved
loop-at-preserved g c =
    let bound : c.in-Ok.n ≤ length (drop c.loop-at.at c.args.bytes.now) =
    simp take_rest at c.in-Ok.ensures.bound in
    record {
      within = omega (arith, length-drop c.loop-at.at c.args.bytes.now, bound);
      taken = more_taken (g.K.Sink.contents c.args.sink.now) (g.K.Sink.contents c.loop-at.sink)
          (g.K.Sink.contents c.write.new.self) c.args.bytes.now c.loop-at.at c.in-Ok.n
          c.loop-at.invariant.taken (simp take_rest at c.in-Ok.ensures.bytes);
      well = rw c.in-Ok.ensures.failed c.loop-at.invariant.well;
    }
