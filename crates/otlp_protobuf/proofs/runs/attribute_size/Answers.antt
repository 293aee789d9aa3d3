use Rattle.std.proofs.Common.{◌≤◌, ◌-◌, length, drop, arith, length-take}
use Rattle.otlp_protobuf.proofs.RunLemmas.{short_field, long_field}
use Rattle.otlp_protobuf.proofs.runs.attribute_size.Goals as goal

pub returns : goal.returns
returns c =
    let fits : c.from-2.result ≤ length (drop 2 c.args.bytes.now) =
    omega (
      arith,
      length-take (length c.args.bytes.now - 2) (drop 2 c.args.bytes.now),
      c.from.ensures,
      c.from-2.ensures,
      c.if-from-rest.true,
    ) in
    short_field c.args.key c.from-2.result c.args.bytes.now c.requires.known c.requires.short
    c.requires.content c.in-len2-up.len_at_least c.if-first-key.true c.if-size-lt128.true
    c.from-2.ensures fits

pub returns-2 : goal.returns-2
returns-2 c =
    let fits : c.long_size-2.result ≤ length (drop 3 c.args.bytes.now) =
    omega (
      arith,
      length-take (length c.args.bytes.now - 3) (drop 3 c.args.bytes.now),
      c.long_size.ensures,
      c.long_size-2.ensures,
      c.if-long_size-rest.true,
    ) in
    long_field c.args.key c.long_size-2.result c.args.bytes.now c.requires.known c.requires.short
    c.requires.content c.in-len3-up.len_at_least c.if-first-key-2.true c.if-low-ge128.true
    c.if-high-lt128.true c.long_size-2.ensures fits
