use Rattle.std.proofs.Common.{◌≡◌, List, map, length, take, drop, Err, Ok, arith, sym, subst, ◌∙◌}
use Rattle.std.proofs.Common.{ℕ}
use Rattle.std.proofs.lemmas.Result.{err_from_is_err_and}
use Rattle.httparse.specs.Spans.{header_bytes}
use Rattle.http_edge.specs.Framing.{framing_by}
use Rattle.http_edge.specs.inner.Framing.{Frames}
use Rattle.http_edge.specs.inner.Head.{LooksForHead}
use Rattle.http_edge.proofs.FaultLemmas.{looks_fails, frames_fails, head_found, fails_whole}
use Rattle.http_edge.proofs.MachineLemmas.{head_ends, head_whole, framing_found, framed_ok}
use Rattle.http_edge.proofs.machine.take_head.Goals as goal

pub returns-in_err-found-clause-fault : goal.returns-in_err-found-clause-fault
returns-in_err-found-clause-fault c =
    let buf = c.extend_from_slice.new.self.items in
    let spans = c.look_for_head.new.spans in
    let p = err_from_is_err_and c.from_residual-in_err-found.result
    c.from_residual-in_err-found.ensures.1 in
    let e = c.in_err-found.field-0.0 in
    let P : List ℕ → Type 0 = λ s. LooksForHead s spans (Err e) in
    let looks = subst P c.deref.ensures.value c.in_err-found.ensures in
    rw (p.1, p.2) (fails_whole e buf c.args.head.now.items c.args.piece.now c.min-n.result
    c.in_ok-extend_from_slice.ensures.items (looks_fails e buf spans looks))

pub returns-in_err-framing-clause-fault : goal.returns-in_err-framing-clause-fault
returns-in_err-framing-clause-fault c =
    let buf = c.extend_from_slice.new.self.items in
    let spans = c.look_for_head.new.spans in
    let found = rw (c.in-Some.is, c.deref.ensures.value) at c.in_ok-found.ensures in
    let p = err_from_is_err_and c.from_residual-in_err-framing.result
    c.from_residual-in_err-framing.ensures.1 in
    let e = c.in_err-framing.field-0.0 in
    let r = c.in-Some.found in
    let P : List ℕ → Type 0 =
    λ s. Frames (framing_by r.version (map (header_bytes s) (take r.headers spans))) (Err e) in
    let frames = subst P c.deref-2.ensures.value c.in_err-framing.ensures in
    let fails = frames_fails e buf (drop r.len buf) found.0
    _ (head_found buf spans r found.0 found.1) (framing_found buf spans r found.0 found.1.at)
    frames in
    rw (p.1, p.2) (fails_whole e buf c.args.head.now.items c.args.piece.now c.min-n.result
    c.in_ok-extend_from_slice.ensures.items fails)

pub overflow_sub-result : goal.overflow_sub-result
overflow_sub-result c =
    let head = c.args.head.now in
    let found = rw (c.in-Some.is, c.deref.ensures.value) at c.in_ok-found.ensures in
    let had_is : c.len-had.result ≡ length head.items =
    omega (arith, head.ok.0, c.len-had.ensures) in
    let ends = head_ends head.items c.args.piece.now c.extend_from_slice.new.self.items
    c.len-had.result c.min-n.result c.look_for_head.new.spans c.in-Some.found found.0 had_is
    (omega arith) c.requires.none c.in_ok-extend_from_slice.ensures.items found.1 in
    omega (arith, ends.some)

pub returns-clause-ok : goal.returns-clause-ok
returns-clause-ok c =
    let head = c.args.head.now in
    let buf = c.extend_from_slice.new.self.items in
    let spans = c.look_for_head.new.spans in
    let found = rw (c.in-Some.is, c.deref.ensures.value) at c.in_ok-found.ensures in
    let had_is : c.len-had.result ≡ length head.items =
    omega (arith, head.ok.0, c.len-had.ensures) in
    let r = c.in-Some.found in
    let w = c.in_ok-framing.framing in
    let P : List ℕ → Type 0 =
    λ s. Frames (framing_by r.version (map (header_bytes s) (take r.headers spans))) (Ok w) in
    let framed = framed_ok (framing_by r.version (map (header_bytes buf) (take r.headers spans))) w
    (subst P c.deref-2.ensures.value c.in_ok-framing.ensures) in
    head_whole head.items c.args.piece.now buf c.truncate.new.self.items c.len-had.result
    c.min-n.result spans r found.0 w had_is (omega arith) c.requires.none
    c.in_ok-extend_from_slice.ensures.items found.1 c.truncate.ensures.items
    (sym (framing_found buf spans r found.0 found.1.at) ∙ framed.0) framed.1
