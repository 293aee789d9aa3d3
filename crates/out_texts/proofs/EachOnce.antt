-- Of points in series order no two elements of one array are of the same resource, scope or metric.
use Rattle.std.proofs.Common.{◌≡◌, true, List, [], ◌∷◌, ◌++◌, map, refl, sym, ap, ◌∙◌, subst, inl}
use Rattle.std.proofs.Common.{inr}
use Rattle.std.specs.List.{AllByRecursion, flat_map, list_all}
use Rattle.std.specs.Cmp.{IsTotalOrder, on_total}
use Rattle.std.specs.Ordering.{is_eq, is_lt, ordering_then}
use Rattle.std.specs.declared.cmp.Ordering.{Ordering}
use Rattle.std.specs.declared.cmp.Ordering.TheVariants.{Less, Equal, Greater}
use Rattle.std.proofs.lemmas.Bool.{and_parts}
use Rattle.series_id.specs.declared.attributes.Attribute.{Attribute}
use Rattle.series_id.specs.Order.{resource_cmp, scope_cmp, stream_cmp, metric_cmp, series_cmp}
use Rattle.series_id.specs.Order.{series_before}
use Rattle.series_id.specs.Totals.{resource_total, scope_total, stream_total}
use Rattle.series_id.proofs.Exact.{resource_tied, scope_tied}
use Rattle.series_id.proofs.Refusals.{each_more}
use Rattle.metric_events.specs.DataPoint.{DataPoint}
use Rattle.metric_events.specs.Series.{is_ascending}
use Rattle.out_texts.specs.declared.level.Level.{Level}
use Rattle.out_texts.specs.declared.level.Level.TheVariants as level
use Rattle.out_texts.specs.Groups.{members, groups}
use Rattle.out_texts.specs.Sharing.{same, shares}
use Rattle.out_texts.specs.Once.{AreApart, HasScopesOnce, HasEachOnce}
use Rattle.out_texts.proofs.Apart.{NotAfter, AreOrdered, ordered_apart}
use Rattle.out_texts.proofs.Grouping.{Shares, groups_flat, groups_share}
use Rattle.out_texts.proofs.Sharing.{resource_key, scope_key, resource_one, scope_one}

-- ---- the levels as orders

abbrev level_cmp : Level → DataPoint → DataPoint → Ordering
level_cmp level.Resource p q = resource_cmp p.series q.series
level_cmp level.Scope p q = scope_cmp p.series q.series
level_cmp level.Metric p q = stream_cmp p.series q.series

level_total : (l : Level) → IsTotalOrder (level_cmp l)
level_total level.Resource = on_total (λ (p : DataPoint). p.series) resource_total
level_total level.Scope = on_total (λ (p : DataPoint). p.series) scope_total
level_total level.Metric = on_total (λ (p : DataPoint). p.series) stream_total

same_ties : (l : Level) (p q : DataPoint) → same l p q ≡ is_eq (level_cmp l p q)
unfolding shares
same_ties level.Resource p q = refl
same_ties level.Scope p q = refl
same_ties level.Metric p q = refl

level_apart : (l : Level) (ps : List DataPoint) → AreOrdered (level_cmp l) ps
    → AreApart (same l) (groups (same l) ps)
level_apart l ps h = ordered_apart (level_cmp l) (level_total l) (same l) (same_ties l) ps h

-- ---- points in series order

-- each point's series is before that of each later one
abbrev AreInOrder : List DataPoint → Type 0
AreInOrder [] = Unit {0}
AreInOrder (p ∷ ps) =
    AllByRecursion (λ q. series_before p.series q.series ≡ true) ps × AreInOrder ps

before_all : (p : DataPoint) (ps : List DataPoint)
    → list_all (series_before p.series) (map (λ q. q.series) ps) ≡ true
    → AllByRecursion (λ q. series_before p.series q.series ≡ true) ps
before_all p [] h = tt
before_all p (q ∷ ps) h = let parts = and_parts (series_before p.series q.series) _ h in
    (parts.0, before_all p ps parts.1)

in_order : (ps : List DataPoint) → is_ascending (map (λ p. p.series) ps) ≡ true → AreInOrder ps
in_order [] h = tt
in_order (p ∷ ps) h = let parts = and_parts
    (list_all (series_before p.series) (map (λ q. q.series) ps)) _ h in
    (before_all p ps parts.0, in_order ps parts.1)

front_all : {X : Type 0} (P : X → Type 0) (xs ys : List X) → AllByRecursion P (xs ++ ys)
    → AllByRecursion P xs
front_all P [] ys h = tt
front_all P (x ∷ xs) ys h = (h.0, front_all P xs ys h.1)

in_order_parts : (xs ys : List DataPoint) → AreInOrder (xs ++ ys) → AreInOrder xs × AreInOrder ys
in_order_parts [] ys h = (tt, h)
in_order_parts (x ∷ xs) ys h = let rest = in_order_parts xs ys h.1 in
    ((front_all (λ q. series_before x.series q.series ≡ true) xs ys h.0, rest.0), rest.1)

flat_in_order : (gs : List (DataPoint × List DataPoint)) → AreInOrder (flat_map members gs)
    → AllByRecursion (λ g. AreInOrder (members g)) gs
flat_in_order [] h = tt
flat_in_order (g ∷ gs) h = let parts = in_order_parts (members g) (flat_map members gs) h in
    (parts.0, flat_in_order gs parts.1)

-- the members of each group are in order too
groups_in_order : (l : Level) (ps : List DataPoint) → AreInOrder ps
    → AllByRecursion (λ g. AreInOrder (members g)) (groups (same l) ps)
groups_in_order l ps h =
    flat_in_order (groups (same l) ps) (subst AreInOrder (sym (groups_flat (same l) ps)) h)

both_all : {X : Type 0} (P Q : X → Type 0) (xs : List X) → AllByRecursion P xs → AllByRecursion Q xs
    → AllByRecursion (λ x. P x × Q x) xs
both_all P Q [] p q = tt
both_all P Q (x ∷ xs) p q = ((p.0, q.0), both_all P Q xs p.1 q.1)

-- points in series order are in the order of a level, if what they share makes it decide
ordered_by : (l : Level) (P : DataPoint → Type 0)
    → ((p q : DataPoint) → P p → P q → series_before p.series q.series ≡ true
    → NotAfter (level_cmp l p q))
    → (ps : List DataPoint) → AreInOrder ps → AllByRecursion P ps → AreOrdered (level_cmp l) ps
ordered_by l P decides [] h r = tt
ordered_by l P decides (p ∷ ps) h r = (
  each_more (λ q. (series_before p.series q.series ≡ true) × P q) (λ q. NotAfter (level_cmp l p q))
      (λ q w. decides p q r.0 w.1 w.0) ps
      (both_all (λ q. series_before p.series q.series ≡ true) P ps h.0 r.1),
  ordered_by l P decides ps h.1 r.1,
)

-- ---- which part of series order decides

first_part : (r s : Ordering) → is_lt (ordering_then r s) ≡ true → NotAfter r
first_part Less s e = inl refl
first_part Equal s e = inr refl
first_part Greater s e = cc e

second_part : (r s : Ordering) → r ≡ Equal → is_lt (ordering_then r s) ≡ true → is_lt s ≡ true
second_part r s e h = ap (λ x. is_lt (ordering_then x s)) (sym e) ∙ h

abbrev IsAny : DataPoint → Type 0
IsAny p = Unit {0}

abbrev HasResource : List Attribute → DataPoint → Type 0
HasResource resource p = IsAny p × (resource_key p ≡ resource)

abbrev HasScope : List Attribute → DataPoint → DataPoint → Type 0
HasScope resource first p = HasResource resource p × (scope_key p ≡ scope_key first)

resource_decides : (p q : DataPoint) → IsAny p → IsAny q → series_before p.series q.series ≡ true
    → NotAfter (level_cmp level.Resource p q)
unfolding series_before series_cmp
resource_decides p q a b e = first_part _ _ e

scope_decides : (resource : List Attribute) (p q : DataPoint) → HasResource resource p
    → HasResource resource q → series_before p.series q.series ≡ true
    → NotAfter (level_cmp level.Scope p q)
unfolding series_before series_cmp
scope_decides resource p q a b e =
    first_part _ _ (second_part _ _ (resource_tied p.series q.series (a.1 ∙ sym b.1)) e)

one_scope : (p q : DataPoint) → scope_key p ≡ scope_key q → scope_cmp p.series q.series ≡ Equal
one_scope p q e = scope_tied p.series q.series
    (record { name = λ i. (e i).0; version = λ i. (e i).1; attrs = λ i. (e i).2 })

metric_decides : (resource : List Attribute) (first p q : DataPoint) → HasScope resource first p
    → HasScope resource first q → series_before p.series q.series ≡ true
    → NotAfter (level_cmp level.Metric p q)
unfolding series_before series_cmp metric_cmp
metric_decides resource first p q a b e =
    first_part _ _ (second_part _ _ (one_scope p q (a.1 ∙ sym b.1))
    (second_part _ _ (resource_tied p.series q.series (a.0.1 ∙ sym b.0.1)) e))

-- ---- the three levels

metrics_once : (resource : List Attribute) (first : DataPoint) (ps : List DataPoint) → AreInOrder ps
    → AllByRecursion (HasScope resource first) ps
    → AreApart (same level.Metric) (groups (same level.Metric) ps)
metrics_once resource first ps h r =
    level_apart level.Metric ps
    (ordered_by level.Metric (HasScope resource first) (metric_decides resource first) ps h r)

scopes_once : (resource : List Attribute) (ps : List DataPoint) → AreInOrder ps
    → AllByRecursion (HasResource resource) ps → HasScopesOnce ps
scopes_once resource ps h r = (
  level_apart level.Scope ps
      (ordered_by level.Scope (HasResource resource) (scope_decides resource) ps h r),
  each_more (λ g. AreInOrder (members g) × Shares scope_key (HasResource resource) g)
      (λ g. AreApart (same level.Metric) (groups (same level.Metric) (members g)))
      (λ g w. metrics_once resource g.0 (members g) w.0 w.1) (groups (same level.Scope) ps)
      (both_all (λ g. AreInOrder (members g)) (Shares scope_key (HasResource resource))
      (groups (same level.Scope) ps)
      (groups_in_order level.Scope ps h)
      (groups_share scope_key (same level.Scope) scope_one (HasResource resource) ps r)),
)

any_point : (ps : List DataPoint) → AllByRecursion IsAny ps
any_point [] = tt
any_point (p ∷ ps) = (tt, any_point ps)

pub each_once : (ps : List DataPoint) → is_ascending (map (λ p. p.series) ps) ≡ true
    → HasEachOnce ps
each_once ps ascending =
    let h = in_order ps ascending in (
      level_apart level.Resource ps
          (ordered_by level.Resource IsAny resource_decides ps h (any_point ps)),
      each_more (λ g. AreInOrder (members g) × Shares resource_key IsAny g)
          (λ g. HasScopesOnce (members g))
          (λ g w. scopes_once g.0.series.resource (members g) w.0 w.1)
          (groups (same level.Resource) ps)
          (both_all (λ g. AreInOrder (members g)) (Shares resource_key IsAny)
          (groups (same level.Resource) ps)
          (groups_in_order level.Resource ps h)
          (groups_share resource_key (same level.Resource) resource_one IsAny ps
          (any_point ps))),
    )
