use Rattle.std.proofs.Common.{◌++◌, take, ◌∙◌}
use Rattle.play_script.proofs.Ended.{appended, rest_written}
use Rattle.play_script.proofs.output.write_all.Goals as goal

pub loop-rest-preserved : goal.loop-rest-preserved
loop-rest-preserved g c =
    let so_far = c.loop-rest.invariant.0 in
    let rest = c.loop-rest.rest.now in
    let count = c.in_ok-count.count in (
      (
        so_far.0 ++ take count rest,
        rest_written c.args.text.now so_far.0 rest count so_far.1,
        appended _ _ _ so_far.0 (take count rest) so_far.2 c.in_ok-count.ensures.bytes,
      ),
      c.in_ok-count.ensures.failed ∙ c.loop-rest.invariant.1,
    )
