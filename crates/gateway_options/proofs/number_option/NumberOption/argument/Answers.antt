-- The option by clap's rules, one call after another.
use Rattle.std.proofs.Common.{◌≡◌, ◌≤◌, ◌∙◌, sym, ap, ap₂, subst, rules, false, Option, Some, []}
use Rattle.std.proofs.Common.{◌∷◌, pos, ℕ, ℤ, true, option_map}
use Rattle.std.specs.Option.{option_map_or}
use Rattle.std.specs.Int.{int_max, int_min}
use Rattle.clap.specs.Words.{NarrowsTo, Rule, Text, new_rule, rule_of, signed_between}
use Rattle.clap.specs.declared.builder.arg.Arg.{Arg}
use Rattle.clap.specs.declared.builder.value_parser.ValueParser.{ValueParser}
use Rattle.clap.specs.declared.builder.value_parser.ValueParser.TheVariants as vp
use Rattle.gateway_options.proofs.number_option.NumberOption.argument.Goals as goal

-- the rule of an option of this name, and with this parser
abbrev long_rule : Text → Rule
long_rule name = record (new_rule name) { long = Some name; value_names = 1 }

abbrev read_rule : Text → ValueParser → Rule
read_rule name p = record (long_rule name) { parser = Some p }

-- with what stands in for the option, or without: then it must be given
abbrev defaulted : Rule → Option Text → Rule
defaulted r d = record r {
  defaults = option_map_or (λ text. text ∷ []) d [];
  required =
      option_map_or (λ text. false) d true;
}

-- the numbers from a to b, which are of u32
least_of : (a : ℕ) → int_max (pos 0) (pos a) ≡ pos a
least_of a = search rules

most_of : (b : ℕ) → b ≤ 4294967295 → int_min (pos 4294967295) (pos b) ≡ pos b
most_of b l = search rules

between : (a b : ℕ) → a ≤ 4294967295 → signed_between (pos a) (pos b) ≡ vp.Signed (pos a) (pos b)
between a b k = search rules

narrowed : (p r : ValueParser) (a b : ℕ) (lo hi : ℤ) → p ≡ vp.Signed (pos 0) (pos 4294967295)
    → lo ≡ pos a → hi ≡ pos b → a ≤ 4294967295 → b ≤ 4294967295 → NarrowsTo p (Some lo) (Some hi) r
    → r ≡ vp.Signed (pos a) (pos b)
narrowed p r a b lo hi e f g k l h =
    subst (λ q. NarrowsTo q (Some lo) (Some hi) r) e h
    ∙ (ap₂ (λ x y. signed_between (int_max (pos 0) x) (int_min (pos 4294967295) y)) f g
    ∙ (ap₂ signed_between (least_of a) (most_of b l) ∙ between a b k))

-- an argument that is long, and reads the numbers from a to b
numbered : (name : Text) (long with : Arg) (a b : ℕ) (q p r : ValueParser) (lo hi : ℤ)
    → rule_of long ≡ long_rule name → with ≡ record long { value_parser = with.value_parser }
    → with.value_parser ≡ Some q → q ≡ r → p ≡ vp.Signed (pos 0) (pos 4294967295) → lo ≡ pos a
    → hi ≡ pos b → a ≤ 4294967295 → b ≤ 4294967295 → NarrowsTo p (Some lo) (Some hi) r
    → rule_of with ≡ read_rule name (vp.Signed (pos a) (pos b))
numbered name long with a b q p r lo hi e same given is first least most k l h =
    ap rule_of same
    ∙ (ap (λ (r : Rule). record r { parser = with.value_parser }) e
    ∙ ap (λ (p : Option ValueParser). record (long_rule name) { parser = p })
    (given ∙ ap Some (is ∙ narrowed p r a b lo hi first least most k l h)))

pub returns-in-Some-clause-rule : goal.returns-in-Some-clause-rule
returns-in-Some-clause-rule c =
    let o = c.args.self.now in
    let long : rule_of c.long.result ≡ long_rule o.name.now =
    ap rule_of c.long.ensures ∙ (ap (λ (a : Arg). record (rule_of a) { long = Some o.name.now })
    c.value_name.ensures ∙ (ap (λ (a : Arg). record (rule_of a)
    { long = Some o.name.now; value_names = 1 }) c.help.ensures
    ∙ ap (λ (r : Rule). record r { long = Some o.name.now; value_names = 1 })
    c.new.ensures.rule)) in
    let reads = numbered o.name.now c.long.result c.value_parser-argument.result o.least o.most
    _ c.value_parser.result c.range.result _ _ long c.value_parser-argument.ensures.others
    c.value_parser-argument.ensures.given.1 c.value_parser-argument.ensures.given.2
    c.value_parser.ensures (c.new-range.ensures.start ∙ search rules)
    (c.new-range.ensures.end ∙ search rules) (search rules) (search rules)
    c.range.ensures in
    ap rule_of c.default_value.ensures
    ∙ (ap (λ (r : Rule). record r { defaults = c.in-Some.text.now ∷ [] }) reads
    ∙ ap (λ (d : Option Text). defaulted
    (read_rule o.name.now (vp.Signed (pos o.least) (pos o.most))) d)
    (sym (ap (option_map (λ text. text.now)) c.in-Some.is)))

pub returns-in-None-clause-rule : goal.returns-in-None-clause-rule
returns-in-None-clause-rule c =
    let o = c.args.self.now in
    let long : rule_of c.long.result ≡ long_rule o.name.now =
    ap rule_of c.long.ensures ∙ (ap (λ (a : Arg). record (rule_of a) { long = Some o.name.now })
    c.value_name.ensures ∙ (ap (λ (a : Arg). record (rule_of a)
    { long = Some o.name.now; value_names = 1 }) c.help.ensures
    ∙ ap (λ (r : Rule). record r { long = Some o.name.now; value_names = 1 })
    c.new.ensures.rule)) in
    let reads = numbered o.name.now c.long.result c.value_parser-argument.result o.least o.most
    _ c.value_parser.result c.range.result _ _ long c.value_parser-argument.ensures.others
    c.value_parser-argument.ensures.given.1 c.value_parser-argument.ensures.given.2
    c.value_parser.ensures (c.new-range.ensures.start ∙ search rules)
    (c.new-range.ensures.end ∙ search rules) (search rules) (search rules)
    c.range.ensures in
    ap rule_of c.required.ensures
    ∙ (ap (λ (r : Rule). record r { required = true }) reads
    ∙ ap (λ (d : Option Text). defaulted
    (read_rule o.name.now (vp.Signed (pos o.least) (pos o.most))) d)
    (sym (ap (option_map (λ text. text.now)) c.in-None.is)))
