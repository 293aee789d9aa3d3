-- No resource, scope or metric occurs twice.
use Rattle.std.specs.Prelude.{◌≡◌, Bool, false, List, [], ◌∷◌, ⊤}
use Rattle.std.specs.List.{AllByRecursion}
use Rattle.metric_events.specs.DataPoint.{DataPoint}
use Rattle.out_texts.specs.declared.level.Level.TheVariants.{Resource, Scope, Metric}
use Rattle.out_texts.specs.Groups.{members, groups}
use Rattle.out_texts.specs.Sharing.{same}

-- no two groups are the same, near or far
abbrev pub AreApart : {X : Type 0} → (X → X → Bool) → List (X × List X) → Type 0
AreApart same [] = ⊤
AreApart same (g ∷ gs) = AllByRecursion (λ k. same g.0 k.0 ≡ false) gs × AreApart same gs

-- no two scopes are the same, and in none of them are two metrics
abbrev pub HasScopesOnce : List DataPoint → Type 0
HasScopesOnce ps =
    AreApart (same Scope) (groups (same Scope) ps)
    × AllByRecursion (λ g. AreApart (same Metric) (groups (same Metric) (members g)))
    (groups (same Scope) ps)

-- no two resources are the same, in none of them are two scopes, and in none of these two metrics
abbrev pub HasEachOnce : List DataPoint → Type 0
HasEachOnce ps =
    AreApart (same Resource) (groups (same Resource) ps)
    × AllByRecursion (λ g. HasScopesOnce (members g)) (groups (same Resource) ps)
