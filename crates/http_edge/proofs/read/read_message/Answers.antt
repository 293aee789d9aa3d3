use Rattle.std.proofs.Common.{[], refl, ◌++◌, take, arith, true, false, Ok, Err, subst}
use Rattle.std.proofs.KnownBytes.{Consumes-trans}
use Rattle.std.proofs.lemmas.Result.{err_from_is_err_and}
use Rattle.http_edge.specs.Answer.{request_form, Reports}
use Rattle.http_edge.specs.Holds.{IsSound}
use Rattle.http_edge.proofs.AnswerLemmas.{request_laws}
use Rattle.http_edge.proofs.FormLemmas.{says, said_at_end}
use Rattle.http_edge.proofs.ReadLemmas.{begins, goes_on, at_message, at_fault, closed_at_end}
use Rattle.http_edge.proofs.ReadLemmas.{not_cut, stops_open}
use Rattle.http_edge.proofs.SourceLemmas.{at_end, some_given}
use Rattle.http_edge.proofs.read.read_message.Goals as goal

pub pieces-init : goal.pieces-init
pieces-init g c = record {
  so_far = (
    [],
    begins (g.S.Source.remaining c.args.source.now) c.new-decoder.result
        c.new-decoder.ensures.nothing c.new-decoder.ensures.fine,
  );
  well = refl;
}

pub pieces-preserved : goal.pieces-preserved
pieces-preserved g c =
    let fed = c.pieces.invariant.so_far.0 in
    let so = c.pieces.invariant.so_far.1 in
    let piece = take c.in-Ok.n c.read.new.buf in
    let open_yet : Reports (fed ++ piece) (Ok false) =
    rw c.if-branch.false at (c.in_ok-feed.ensures.reports fed so.holds) in
    record {
      so_far = (
        fed ++ piece,
        goes_on (g.S.Source.remaining c.args.source.now)
            (g.S.Source.remaining c.pieces.source) (g.S.Source.remaining c.read.new.self)
            c.pieces.decoder c.feed.new.self fed piece so c.in-Ok.ensures.bytes.0
            (c.feed.ensures.holds fed so.holds) c.in_ok-feed.ensures.fault open_yet,
      );
      well = rw c.in-Ok.ensures.failed c.pieces.invariant.well;
    }

-- ---- the source ended

pub returns-then-n-eq0-clause-says : goal.returns-then-n-eq0-clause-says
returns-then-n-eq0-clause-says g c =
    let r0 = g.S.Source.remaining c.args.source.now in
    let r1 = g.S.Source.remaining c.pieces.source in
    let fed = c.pieces.invariant.so_far.0 in
    let so = c.pieces.invariant.so_far.1 in
    let ended = c.in-Ok.ensures.bytes.1 c.if-n-eq0.true (omega (arith, c.read.auto.buf)) in
    let closed =
    closed_at_end r0 r1 c.pieces.decoder fed c.finish.result so c.finish.ensures.closed in
    says request_form request_laws r0 c.finish.result
    (said_at_end request_form r0 r1 fed c.finish.result so.known ended
    (c.finish.ensures.answers fed so.holds)) closed

pub returns-then-n-eq0-clause-stops : goal.returns-then-n-eq0-clause-stops
returns-then-n-eq0-clause-stops g c =
    stops_open (g.S.Source.remaining c.args.source.now) (g.S.Source.remaining c.pieces.source)
    (g.S.Source.remaining c.read.new.self) (g.S.Source.given c.read.new.self) c.in-Ok.n
    _ c.pieces.invariant.so_far.0 c.read.new.buf
    (subst IsSound c.decoder.view_is c.decoder.invariant) c.pieces.invariant.so_far.1
    c.in-Ok.ensures.bytes.0 c.in-Ok.ensures.bound c.in-Ok.ensures.given

pub returns-then-n-eq0-clause-truncated : goal.returns-then-n-eq0-clause-truncated
returns-then-n-eq0-clause-truncated g c =
    let none = c.if-n-eq0.true in
    at_end (g.S.Source.remaining c.args.source.now) (g.S.Source.remaining c.pieces.source)
    (g.S.Source.remaining c.read.new.self) c.pieces.invariant.so_far.0
    _ c.pieces.invariant.so_far.1.known (rw none at c.in-Ok.ensures.bytes.0)
    (c.in-Ok.ensures.bytes.1 none (omega (arith, c.read.auto.buf)))

-- ---- a fault was fed

pub returns-in_err-feed-clause-says : goal.returns-in_err-feed-clause-says
returns-in_err-feed-clause-says g c =
    let old = g.S.Source.remaining c.args.source.now in
    let now = g.S.Source.remaining c.pieces.source in
    let next = g.S.Source.remaining c.read.new.self in
    let fed = c.pieces.invariant.so_far.0 in
    let so = c.pieces.invariant.so_far.1 in
    let p = err_from_is_err_and c.from_residual.result c.from_residual.ensures.1 in
    let e = c.in_err-feed.field-0.0 in
    rw (p.1, p.2) (says request_form request_laws old (Err e)
    (at_fault old now next c.pieces.decoder fed (take c.in-Ok.n c.read.new.buf) e so
    c.in-Ok.ensures.bytes.0 (c.in_err-feed.ensures.reports fed so.holds))
    (some_given old now next fed c.read.new.buf c.in-Ok.n _ so.known
    c.in-Ok.ensures.bytes.0 c.in-Ok.ensures.bound (omega arith)))

pub returns-in_err-feed-clause-stops : goal.returns-in_err-feed-clause-stops
returns-in_err-feed-clause-stops g c =
    stops_open (g.S.Source.remaining c.args.source.now) (g.S.Source.remaining c.pieces.source)
    (g.S.Source.remaining c.read.new.self) (g.S.Source.given c.read.new.self) c.in-Ok.n
    _ c.pieces.invariant.so_far.0 c.read.new.buf
    (subst IsSound c.decoder.view_is c.decoder.invariant) c.pieces.invariant.so_far.1
    c.in-Ok.ensures.bytes.0 c.in-Ok.ensures.bound c.in-Ok.ensures.given

-- ---- a message was fed

pub returns-then-branch-clause-says : goal.returns-then-branch-clause-says
returns-then-branch-clause-says g c =
    let old = g.S.Source.remaining c.args.source.now in
    let now = g.S.Source.remaining c.pieces.source in
    let next = g.S.Source.remaining c.read.new.self in
    let fed = c.pieces.invariant.so_far.0 in
    let so = c.pieces.invariant.so_far.1 in
    let piece = take c.in-Ok.n c.read.new.buf in
    let whole : Reports (fed ++ piece) (Ok true) =
    rw c.if-branch.true at (c.in_ok-feed.ensures.reports fed so.holds) in
    let r = c.finish-then-branch.result in
    let answers =
    c.finish-then-branch.ensures.answers (fed ++ piece) (c.feed.ensures.holds fed so.holds) in
    says request_form request_laws old r
    (at_message old next (fed ++ piece) r whole.0
    (Consumes-trans old now next fed piece so.known c.in-Ok.ensures.bytes.0) whole.1
    answers) (some_given old now next fed c.read.new.buf c.in-Ok.n _ so.known
    c.in-Ok.ensures.bytes.0 c.in-Ok.ensures.bound (omega arith))

pub returns-then-branch-clause-stops : goal.returns-then-branch-clause-stops
returns-then-branch-clause-stops g c =
    stops_open (g.S.Source.remaining c.args.source.now) (g.S.Source.remaining c.pieces.source)
    (g.S.Source.remaining c.read.new.self) (g.S.Source.given c.read.new.self) c.in-Ok.n
    _ c.pieces.invariant.so_far.0 c.read.new.buf
    (subst IsSound c.decoder.view_is c.decoder.invariant) c.pieces.invariant.so_far.1
    c.in-Ok.ensures.bytes.0 c.in-Ok.ensures.bound c.in-Ok.ensures.given

pub returns-then-branch-clause-truncated : goal.returns-then-branch-clause-truncated
returns-then-branch-clause-truncated g c =
    let fed = c.pieces.invariant.so_far.0 in
    let so = c.pieces.invariant.so_far.1 in
    let piece = take c.in-Ok.n c.read.new.buf in
    let whole : Reports (fed ++ piece) (Ok true) =
    rw c.if-branch.true at (c.in_ok-feed.ensures.reports fed so.holds) in
    not_cut (g.S.Source.remaining c.args.source.now) (g.S.Source.remaining c.read.new.self)
    (fed ++ piece) whole.0 c.finish-then-branch.result whole.1
    (c.finish-then-branch.ensures.answers (fed ++ piece)
    (c.feed.ensures.holds fed so.holds))
