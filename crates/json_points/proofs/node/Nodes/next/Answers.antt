use Rattle.std.proofs.Common.{◌≡◌, ◌∷◌, [], List, None, sym, subst, arith}
use Rattle.std.specs.Prelude.{MatchOption}
use Rattle.serde_json.specs.Data.{Data}
use Rattle.json_points.specs.inner.Nodes.{data_at, AreItems}
use Rattle.json_points.proofs.NodeLemmas.{next_item, no_item}
use Rattle.json_points.proofs.node.Nodes.next.Goals as goal

pub invariant_of-result : goal.invariant_of-result
invariant_of-result c =
    (next_item _ _ _ c.self.invariant.0 c.self.invariant.1 c.in_ok-element.ensures.value).3

pub invariant_of-self-2 : goal.invariant_of-self-2
invariant_of-self-2 c =
    let f = next_item _ _ _ c.self.invariant.0 c.self.invariant.1 c.in_ok-element.ensures.value in
    (f.0, f.2)

pub returns-in_err-element-clause-value : goal.returns-in_err-element-clause-value
returns-in_err-element-clause-value c ds has =
    let gone : c.from_residual.result ≡ None = grind arith in
    let here = subst (λ ts. AreItems ts ds) (sym c.self.view_is) has in
    subst (λ r. MatchOption r (ds ≡ [])
    (λ n. (rest : List Data) × (ds ≡ data_at n ∷ rest) × AreItems c.next.new.self rest))
    (sym gone) (no_item c.self.inside.items c.next.new.self ds here
    c.in_err-element.ensures.value)

pub returns-clause-value : goal.returns-clause-value
returns-clause-value c ds has =
    let here = subst (λ ts. AreItems ts ds) (sym c.self.view_is) has in
    let f = next_item _ _ _ ds here c.in_ok-element.ensures.value in (f.0, f.1, f.2)
