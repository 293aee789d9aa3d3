use Rattle.std.proofs.Common.{◌≡◌, ◌++◌, take}
use Rattle.out_texts.specs.Escaped.{escaped}
use Rattle.out_texts.proofs.escape.put_escaped.Given as goal

abbrev pub invariant-loop-byte : goal.invariant-loop-byte
invariant-loop-byte l = l.out.items ≡ l.fn.out.items ++ escaped (take l.byte-index l.text)
