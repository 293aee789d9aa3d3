use Rattle.std.proofs.Common.{◌≡◌, ap, ◌∙◌, arith, None, Some, option_map, pos, ℤ, to_z, of_z}
use Rattle.std.specs.Int.{w128}
use Rattle.std.proofs.lemmas.Int.{ints}
use Rattle.otlp_read.proofs.IntegerLemmas.{plain_text}
use Rattle.std.proofs.lemmas.Str.Pattern.{strip_prefix_char}
use Rattle.otlp_read.specs.Integers.{magnitude}
use Rattle.otlp_read.proofs.integers.whole_text.Goals as goal

pub returns-in_err-size-in-None : goal.returns-in_err-size-in-None
returns-in_err-size-in-None c =
    let e = plain_text c.args.text.now
    (strip_prefix_char 45 c.args.text.now None c.in-None.ensures.cases (omega arith)) in
    let was : None ≡ magnitude c.args.text.now = c.in_err-size-in-None.ensures in
    c.from_residual-in_err-size-in-None.ensures ∙ ap (λ o. option_map (λ n. pos n) o) was ∙ e

pub returns-in_ok-size-in-None : goal.returns-in_ok-size-in-None
returns-in_ok-size-in-None c =
    let e = plain_text c.args.text.now
    (strip_prefix_char 45 c.args.text.now None c.in-None.ensures.cases (omega arith)) in
    let was : Some c.in_ok-size-in-None.size ≡ magnitude c.args.text.now =
    c.in_ok-size-in-None.ensures in
    let same : to_z w128 (of_z w128 c.from-in-None.result) ≡ pos c.in_ok-size-in-None.size =
    omega (arith, ints) in
    ap (λ (z : ℤ). Some z) same ∙ ap (λ o. option_map (λ n. pos n) o) was ∙ e
