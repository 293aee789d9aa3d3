use Rattle.std.proofs.Common.{◌≡◌, ◌+◌, drop, take, min, true}
use Rattle.std.specs.Str.{all_ascii_digits}
use Rattle.std.specs.Str.Parse.{digits_value}
use Rattle.decimals.proofs.capped_value.Given as goal

abbrev pub invariant-loop-digit : goal.invariant-loop-digit
invariant-loop-digit l = (l.value ≡ min (digits_value 10 (take l.digit-index l.digits))
    (l.most + 1)) × (all_ascii_digits (drop l.digit-index l.digits) ≡ true)
