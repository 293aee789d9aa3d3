use Rattle.std.proofs.Common.{rules, ◌≡◌, length, take, arith, ◌-◌, ap, refl, subst, sym}
use Rattle.std.proofs.lemmas.List.{length-append, length-take-le}
use Rattle.std.specs.Io.KnownBytes.{Consumes}
use Rattle.std.proofs.KnownBytes.{Consumes-trans}
use Rattle.http_edge.proofs.ReplyLemmas.{begins, fault_says, front_put, one_piece_more, stops_reply}
use Rattle.http_edge.proofs.response.read_head.Goals as goal

pub pieces-init : goal.pieces-init
pieces-init g c = record {
  so_far = begins (g.S.Source.remaining c.args.source.now);
  within =
      omega arith;
  well = refl;
}

pub pieces-preserved : goal.pieces-preserved
pieces-preserved g c =
    let so = c.pieces.invariant.so_far in
    let few = c.in-Ok.ensures.bound in
    let is = front_put c.pieces.len c.in-Ok.n (16384 - c.pieces.len) c.pieces.head c.read.new.buf
    (search rules) few in
    let still = rw c.in-Ok-None.field-0-is at c.in-Ok-None.ensures in
    record {
      so_far = one_piece_more _ _ _ _ _ _ so c.in-Ok.ensures.bytes.0 is still;
      within = omega (
        arith,
        ap length is,
        length-append (take c.pieces.len c.pieces.head)
            (take c.in-Ok.n c.read.new.buf),
        length-take-le c.pieces.len c.pieces.head (search rules),
        length-take-le c.in-Ok.n c.read.new.buf few,
        still.1,
      );
      well = search rules;
    }

pub returns-in-Ok-Some-clause-whole : goal.returns-in-Ok-Some-clause-whole
returns-in-Ok-Some-clause-whole g c =
    let few = c.in-Ok.ensures.bound in
    let is = front_put c.pieces.len c.in-Ok.n (16384 - c.pieces.len) c.pieces.head c.read.new.buf
    (search rules) few in
    let looks = rw c.in-Ok-Some.field-0-is at c.in-Ok-Some.ensures in
    record {
      within = search rules;
      known = subst (Consumes _ _) (sym is)
          (Consumes-trans _ _ _ _ _ c.pieces.invariant.so_far.known c.in-Ok.ensures.bytes.0);
      begins = (_, looks);
    }

pub returns-in-Ok-Some-clause-stops : goal.returns-in-Ok-Some-clause-stops
returns-in-Ok-Some-clause-stops g c =
    stops_reply _ _ _ _ c.in-Ok.n _ c.read.new.buf c.pieces.invariant.so_far c.in-Ok.ensures.bytes.0
    c.in-Ok.ensures.bound c.in-Ok.ensures.given

pub returns-in-Err-clause-fault : goal.returns-in-Err-clause-fault
returns-in-Err-clause-fault g c =
    let few = c.in-Ok.ensures.bound in
    let is = front_put c.pieces.len c.in-Ok.n (16384 - c.pieces.len) c.pieces.head c.read.new.buf
    (search rules) few in
    let looks = rw c.in-Err.fault-is at c.in-Err.ensures in
    fault_says _ _ _ _ _ _ _ c.pieces.invariant.so_far c.in-Ok.ensures.bytes.0 is
    (omega (arith, length-take-le c.in-Ok.n c.read.new.buf few)) looks.0 looks.1

pub returns-in-Err-clause-stops : goal.returns-in-Err-clause-stops
returns-in-Err-clause-stops g c = stops_reply _ _ _ _ c.in-Ok.n _ c.read.new.buf
    c.pieces.invariant.so_far c.in-Ok.ensures.bytes.0 c.in-Ok.ensures.bound c.in-Ok.ensures.given
