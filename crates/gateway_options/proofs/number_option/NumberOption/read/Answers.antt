use Rattle.std.proofs.Common.{◌≡◌, ◌≤◌, ◌<◌, ◌∙◌, ℕ, List, Option, Some, None, sym, ap, ap₂, arith}
use Rattle.std.specs.Prelude.{IfNone, option_and_then, unwrap_or}
use Rattle.clap.specs.declared.parser.matches.Found.{Found}
use Rattle.clap.specs.Words.{Row, Text, first_of, first_value, found_of, rows_of}
use Rattle.clap.proofs.WalkLemmas.{first_value-rows}
use Rattle.decimals.specs.Numbers.{at_most, number, number_up_to}
use Rattle.gateway_options.specs.CommandLine.{Number, IsNumber}
use Rattle.gateway_options.specs.inner.NumberOption.{described}
use Rattle.gateway_options.proofs.number_option.NumberOption.read.Goals as goal

within : (most : ℕ) (o : Option ℕ) (n : ℕ) → at_most most o ≡ Some n → n ≤ most
within most None n h = cc
within most (Some k) n h = grind arith

-- what is read of the option's value
found_text : (found : Found) (name : Text) (most : ℕ) (text : Text) (o : Option ℕ)
    → Some text ≡ first_value found name → o ≡ number_up_to most text
    → option_and_then (number_up_to most) (first_of name (rows_of found)) ≡ o
found_text found name most text o value read =
    ap (option_and_then (number_up_to most)) (sym (first_value-rows found name) ∙ sym value)
    ∙ sym read

unread : (n : Number) (rows : List Row)
    → option_and_then (number_up_to n.most) (first_of n.name rows) ≡ None → (v : ℕ)
    → ¬ (IsNumber n rows v)
unread n rows e v h =
    let bad : None ≡ Some v = sym e ∙ h.0 in
    cc

too_small : (n : Number) (rows : List Row) (k : ℕ)
    → option_and_then (number_up_to n.most) (first_of n.name rows) ≡ Some k → k < n.least → (v : ℕ)
    → ¬ (IsNumber n rows v)
too_small n rows k e l v h =
    let same : k ≡ v = ap (λ o. unwrap_or o 0) (sym e ∙ h.0) in
    omega (arith, same, l, h.1)

where_none : {T P : Type 0} (o : Option T) → P → IfNone o P
where_none None p = p
where_none (Some x) p = tt

pub returns-in_err-get_str-clause-none : goal.returns-in_err-get_str-clause-none
returns-in_err-get_str-clause-none c =
    let o = c.args.self.now in
    let found = found_of c.args.matches.now in
    where_none c.from_residual.result
    (unread (described o) (rows_of found)
    (ap (option_and_then (number_up_to o.most))
    (sym (first_value-rows found o.name.now) ∙ sym c.in_err-get_str.ensures)))

pub returns-in_err-number-clause-none : goal.returns-in_err-number-clause-none
returns-in_err-number-clause-none c =
    let o = c.args.self.now in
    let found = found_of c.args.matches.now in
    let told : None ≡ number_up_to o.most c.in_ok-get_str.field-0.now =
    c.in_err-number.ensures ∙ ap₂ number_up_to c.from.ensures c.as_bytes.ensures.value in
    where_none c.from_residual-in_err-number.result
    (unread (described o) (rows_of found)
    (found_text found o.name.now o.most c.in_ok-get_str.field-0.now None
    c.in_ok-get_str.ensures told))

pub returns-then-number-from-clause-none : goal.returns-then-number-from-clause-none
returns-then-number-from-clause-none c =
    let o = c.args.self.now in
    let found = found_of c.args.matches.now in
    let told : Some c.in_ok-number.number ≡ number_up_to o.most c.in_ok-get_str.field-0.now =
    c.in_ok-number.ensures ∙ ap₂ number_up_to c.from.ensures c.as_bytes.ensures.value in
    too_small (described o) (rows_of found) c.in_ok-number.number
    (found_text found o.name.now o.most c.in_ok-get_str.field-0.now _ c.in_ok-get_str.ensures
    told) (omega (arith, c.if-number-from.true))

pub returns-clause-number : goal.returns-clause-number
returns-clause-number c =
    let name = c.args.self.now.name.now in
    let most = c.args.self.now.most in
    let found = found_of c.args.matches.now in
    let text = c.in_ok-get_str.field-0.now in
    let value : first_of name (rows_of found) ≡ Some text =
    sym (first_value-rows found name) ∙ sym c.in_ok-get_str.ensures in
    let bytes = c.as_bytes.ensures.value in
    let bound = c.from.ensures in
    let told = c.in_ok-number.ensures in
    let written : number_up_to most text ≡ Some c.in_ok-number.number =
    ap₂ number_up_to (sym bound) (sym bytes) ∙ sym told in
    let read : option_and_then (number_up_to most) (first_of name (rows_of found))
    ≡ Some c.in_ok-number.number = ap (option_and_then (number_up_to most)) value ∙ written in (
      within most (number text) c.in_ok-number.number written,
      (read, omega (arith, c.if-number-from.false)),
    )
