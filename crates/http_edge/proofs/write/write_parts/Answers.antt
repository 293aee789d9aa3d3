use Rattle.std.proofs.Common.{◌+◌, arith, length, take, drop, get_or, sym, ap, ◌++◌, List, ℕ, []}
use Rattle.std.proofs.Common.{Bor}
use Rattle.std.specs.List.{flat_map}
use Rattle.std.proofs.lemmas.List.{length-append, take_all}
use Rattle.http_edge.proofs.WriteLemmas.{parted}
use Rattle.http_edge.proofs.WriteBufferLemmas.{passes_length, passes_then, sent_cut_in, sent_at_end}
use Rattle.http_edge.proofs.WriteBufferLemmas.{next_part}
use Rattle.http_edge.proofs.write.write_parts.Goals as goal

abbrev now : Bor (List ℕ) → List ℕ
now p = p.now

abbrev unset : Bor (List ℕ)
unset = record { ref_ptr = (0, 0); now = [] }

pub put-requires : goal.put-requires
put-requires g c =
    let xs = c.args.parts.now in
    let i = c.loop-part.part-index in
    let before = flat_map now (take i xs) in
    let part = (get_or xs i unset).now in
    let later = flat_map now (drop (i + 1) xs) in
    omega (
      arith,
      c.requires,
      passes_length _ _ 0 c.loop-part.buffer before
          c.loop-part.invariant.passes,
      ap length (parted now xs i unset c.loop-part-test.true),
      length-append before (part ++ later),
      length-append part later,
    )

pub returns-in-Err-clause-text : goal.returns-in-Err-clause-text
returns-in-Err-clause-text g c =
    let xs = c.args.parts.now in
    let i = c.loop-part.part-index in
    sent_cut_in (g.K.Sink.contents c.args.sink.now) (g.K.Sink.contents c.loop-part.sink)
    (g.K.Sink.contents c.put.new.sink) c.loop-part.buffer (flat_map now (take i xs))
    (get_or xs i unset).now (flat_map now (drop (i + 1) xs)) (flat_map now xs) c.in-Err.cut
    c.loop-part.invariant.passes c.in-Err.ensures.cut (parted now xs i unset c.loop-part-test.true)

pub loop-part-preserved : goal.loop-part-preserved
loop-part-preserved g c =
    let xs = c.args.parts.now in
    let i = c.loop-part.part-index in
    record {
      passes = rw (next_part now xs i unset c.loop-part-test.true)
          (passes_then (g.K.Sink.contents c.args.sink.now) (g.K.Sink.contents c.loop-part.sink)
          (g.K.Sink.contents c.put.new.sink) 0 c.loop-part.buffer c.put.new.self
          (flat_map now (take i xs)) (get_or xs i unset).now
          c.loop-part.invariant.passes c.in_default.ensures.passes);
      well = rw c.in_default.ensures.failed c.loop-part.invariant.well;
    }

pub returns-clause-text : goal.returns-clause-text
returns-clause-text g c =
    let xs = c.args.parts.now in
    let i = c.loop-part.part-index in
    rw (ap (flat_map now) (sym (take_all i xs c.loop-part-test.false)))
    (sent_at_end (g.K.Sink.contents c.args.sink.now) (g.K.Sink.contents c.loop-part.sink)
    (g.K.Sink.contents c.end.new.sink) c.loop-part.buffer (flat_map now (take i xs))
    c.end.result
    c.loop-part.invariant.passes c.end.ensures.text)
