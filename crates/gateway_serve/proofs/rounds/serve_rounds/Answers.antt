use Rattle.std.proofs.Common.{[], ◌∷◌, ◌<◌, ◌∙◌, ap, refl, arith}
use Rattle.metric_events.specs.declared.opening.Opening.{Opening}
use Rattle.delta_book.specs.Journal.{Journal}
use Rattle.gateway_serve.specs.Rounds.{ServedRound}
use Rattle.gateway_serve.proofs.ServedRounds.{through_first, through_one_more, run_first}
use Rattle.gateway_serve.proofs.ServedRounds.{run_one_more, next_number}
use Rattle.gateway_serve.proofs.rounds.serve_rounds.Goals as goal

pub loop-left-init : goal.loop-left-init
loop-left-init g c =
    let options = c.args.options.now in
    let first : ServedRound = record {
      connections = c.next_count-first.result;
      accepted =
          c.in_ok-book.field-0-2.accepted;
      begun = c.in-Ok.new;
      ended = c.in_ok-book.book;
    } in
    let count = c.next_count-first.ensures in
    let begun = c.in-Ok.ensures in
    let over = c.requires.over _ _ c.in-Ok.new c.in_ok-book.book _ c.in_ok-book.audit
    _ (ap (λ (J : Journal). J.entries) begun) c.in_ok-book.ensures in (
      first,
      [],
      record {
        calls =
            (c.args.serve_round.now, refl, c.in_ok-book.audit, _, c.in_ok-book.ensures, refl);
      },
      run_first options.connections options.round _ first c.in_ok-book.audit c.of-sums.result
          (record {
            given = omega (arith, count);
            accepted = over.1;
            begun = begun;
            opening =
                over.0.opening;
            legal = over.0.legal;
          }) refl over.0
          (omega (arith, c.of-sums.ensures.admitted))
          (omega (arith, c.of-sums.ensures.acknowledged)),
      through_first options.connections options.round _ c.next_count-first.result
          _ (ap (λ (O : Opening). O.round) over.0.opening
          ∙ ap (λ (J : Journal). J.opening.round) begun) count refl,
    )

pub loop-left-preserved : goal.loop-left-preserved
loop-left-preserved g c =
    let options = c.args.options.now in
    let old = c.loop-left.invariant in
    let closing = c.in_ok-close.ensures.closed in
    let over = c.requires.over _ _ c.close.new.book c.in_ok-next.next _ c.in_ok-next.audit
    _ (ap (λ (J : Journal). J.entries) closing) c.in_ok-next.ensures in
    let count = c.next_count-count.ensures in
    let sums = c.and-sums.ensures in
    let some : 0 < c.loop-left.left = omega arith in
    let r : ServedRound = record {
      connections = c.next_count-count.result;
      accepted =
          c.in_ok-next.field-0-2.accepted;
      begun = c.close.new.book;
      ended = c.in_ok-next.next;
    } in (
      r,
      old.0 ∷ old.1,
      record {
        calls = (
          c.loop-left.serve_round,
          old.2.calls,
          c.in_ok-next.audit,
          _,
          c.in_ok-next.ensures,
          refl,
        );
      },
      run_one_more options.connections options.round c.loop-left.left _ old.0 r old.1
          c.loop-left.book c.in_ok-next.audit c.loop-left.sums c.and-sums.result old.3
          (omega (arith, old.4.full some)) count closing refl over.1 over.0 sums.admitted
          sums.acknowledged,
      through_one_more options.connections options.round _ _ c.loop-left.left _ _ old.4 some
          (next_number c.loop-left.book c.close.new.book c.in_ok-next.next closing over.0.opening)
          count refl,
    )
