use Rattle.std.proofs.Common.{◌≡◌, Some, ap}
use Rattle.std.proofs.lemmas.List.{take_rest}
use Rattle.std.proofs.lemmas.Result.{err_from_is_err_and}
use Rattle.http_edge.specs.inner.Body.{body_state}
use Rattle.http_edge.specs.Holds.{in_body}
use Rattle.http_edge.proofs.FaultLemmas.{fails_more}
use Rattle.http_edge.proofs.MachineLemmas.{stops_behind, begin_body, advance_in_body, stop_in_body}
use Rattle.http_edge.proofs.machine.Machine.advance.Goals as goal

pub returns-in_err-done-in-InHead : goal.returns-in_err-done-in-InHead
returns-in_err-done-in-InHead c =
    let p = err_from_is_err_and c.from_residual-in_err-done-in-InHead.result
    c.from_residual-in_err-done-in-InHead.ensures.1 in
    let ends = rw c.in-Some.is at c.in_ok-n-in-InHead.ensures.ok in
    let fault = stops_behind c.in_err-done-in-InHead.field-0.0 c.in-InHead.head.items
    c.take_head.new.head.items c.args.piece.now c.in-Some.n c.in-Some.framing
    (body_state c.empty_body-body.result) ends c.empty_body-body.ensures
    (simp take_rest at c.in_err-done-in-InHead.ensures.fault) in
    rw (p.1, p.2, c.in-InHead.is)
    (record { ok = tt; fault = fault; again = λ e is. absurd cc; whole = λ is. absurd cc })

pub returns-in_ok-done-in-InHead : goal.returns-in_ok-done-in-InHead
returns-in_ok-done-in-InHead c =
    let ends = rw c.in-Some.is at c.in_ok-n-in-InHead.ensures.ok in
    let ok = simp take_rest at c.in_ok-done-in-InHead.ensures.ok in
    let goes = begin_body c.in-InHead.head.items c.take_head.new.head.items c.args.piece.now
    c.in-Some.n c.in-Some.framing (body_state c.empty_body-body.result)
    (body_state c.take_body.new.body) c.in_ok-done-in-InHead.done ends
    c.empty_body-body.ensures ok.0 ok.1 in
    rw (c.in-InHead.is, c.replace-whole.ensures.value)
    (record { ok = goes; fault = tt; again = λ e is. absurd cc; whole = λ is. absurd cc })

pub returns-in-InBody : goal.returns-in-InBody
returns-in-InBody c =
    let sound = rw c.in-InBody.is at c.requires in
    let head = c.in-InBody.field-0.items in
    let ok = advance_in_body c.take_body-in-InBody.result head (body_state c.in-InBody.body)
    (body_state c.take_body-in-InBody.new.body) c.args.piece.now sound.0
    c.take_body-in-InBody.ensures.ok in
    let fault = stop_in_body c.take_body-in-InBody.result head (body_state c.in-InBody.body)
    c.args.piece.now c.take_body-in-InBody.ensures.fault in
    rw c.in-InBody.is (record {
      ok = ok;
      fault = fault;
      again = λ e is. absurd cc;
      whole =
          λ is. let stays = c.take_body-in-InBody.ensures.whole is in
          (stays.0, ap (in_body head) stays.1);
    })

pub returns-in-Failed : goal.returns-in-Failed
returns-in-Failed c =
    rw c.in-Failed.is (record {
      ok = tt;
      fault =
          λ bytes h. fails_more c.in-Failed.fault bytes c.args.piece.now h;
      again =
          λ e is. let same : Some c.in-Failed.fault ≡ Some e = is in
          cc;
      whole = λ is. absurd cc;
    })
