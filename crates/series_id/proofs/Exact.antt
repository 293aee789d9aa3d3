-- Each of the orders ties only equals.
use Rattle.std.proofs.Common.{◌≡◌, true, false, refl, sym, ap, ◌∙◌}
use Rattle.std.specs.Ordering.{ordering_then, bool_cmp}
use Rattle.std.specs.Cmp.{IsTotalOrder, tied_itself}
use Rattle.std.specs.FinMap.{IsAntisymmetric, nat_cmp-IsAntisymmetric, int_cmp-IsAntisymmetric}
use Rattle.std.specs.FinMap.{slice_cmp-IsAntisymmetric}
use Rattle.std.specs.declared.cmp.Ordering.{Ordering}
use Rattle.std.specs.declared.cmp.Ordering.TheVariants.{Equal}
use Rattle.series_id.specs.declared.scalars.Scalar.TheVariants.{Empty, Truth, Int, Text}
use Rattle.series_id.specs.declared.values.AttrValue.TheVariants.{One, Many}
use Rattle.series_id.specs.declared.kinds.Kind.TheVariants.{Sum, Histogram}
use Rattle.series_id.specs.Texts.{text_cmp}
use Rattle.series_id.specs.Values.{scalar_cmp, value_cmp}
use Rattle.series_id.specs.Attributes.{attribute_cmp, attrs_cmp}
use Rattle.series_id.specs.Kinds.{kind_cmp}
use Rattle.series_id.specs.Identity.{Identity}
use Rattle.series_id.specs.Order.{resource_cmp, scope_cmp, stream_cmp, metric_cmp, series_cmp}
use Rattle.series_id.specs.Sharing.{HasOneResource, HasOneScope, HasOneStream}
use Rattle.series_id.specs.Totals.{text_total, attrs_total, kind_total}

pub then_first : (r s : Ordering) → ordering_then r s ≡ Equal → r ≡ Equal
then_first Equal s e = refl
then_first r s e = cc e

pub then_second : (r s : Ordering) → ordering_then r s ≡ Equal → s ≡ Equal
then_second Equal s e = e
then_second r s e = cc e

pub text_exact : IsAntisymmetric text_cmp
text_exact = slice_cmp-IsAntisymmetric nat_cmp-IsAntisymmetric

bool_exact : IsAntisymmetric bool_cmp
bool_exact false false e = refl
bool_exact true true e = refl
bool_exact a b e = cc e

pub scalar_exact : IsAntisymmetric scalar_cmp
scalar_exact Empty Empty e = refl
scalar_exact (Truth a) (Truth b) e = ap Truth (bool_exact a b e)
scalar_exact (Int m) (Int n) e = ap Int (int_cmp-IsAntisymmetric m n e)
scalar_exact (Text s) (Text t) e = ap Text (text_exact s t e)
scalar_exact x y e = cc e

pub value_exact : IsAntisymmetric value_cmp
value_exact (One x) (One y) e = ap One (scalar_exact x y e)
value_exact (Many xs) (Many ys) e = ap Many (slice_cmp-IsAntisymmetric scalar_exact xs ys e)
value_exact v w e = cc e

pub attribute_exact : IsAntisymmetric attribute_cmp
attribute_exact x y e =
    let k = text_exact x.key y.key (then_first _ _ e) in
    let v = value_exact x.value y.value (then_second _ _ e) in
    λ i. record { key = k i; value = v i }

pub attrs_exact : IsAntisymmetric attrs_cmp
attrs_exact = slice_cmp-IsAntisymmetric attribute_exact

pub kind_exact : IsAntisymmetric kind_cmp
kind_exact (Sum a) (Sum b) e = ap Sum (bool_exact a b e)
kind_exact (Histogram xs) (Histogram ys) e =
    ap Histogram (slice_cmp-IsAntisymmetric int_cmp-IsAntisymmetric xs ys e)
kind_exact j k e = cc e

-- ---- what series share

both_equal : (r s : Ordering) → r ≡ Equal → s ≡ Equal → ordering_then r s ≡ Equal
both_equal r s p q = ap (λ (t : Ordering). ordering_then t s) p ∙ q

-- equals tie
tied : {K : Type 0} {R : K → K → Ordering} → IsTotalOrder R → (x y : K) → x ≡ y → R x y ≡ Equal
tied {R = R} total x y e = ap (λ z. R x z) (sym e) ∙ tied_itself total x

pub resource_exact : (x y : Identity) → resource_cmp x y ≡ Equal → HasOneResource x y
resource_exact x y e = attrs_exact x.resource y.resource e

pub resource_tied : (x y : Identity) → HasOneResource x y → resource_cmp x y ≡ Equal
resource_tied x y h = tied attrs_total x.resource y.resource h

pub scope_exact : (x y : Identity) → scope_cmp x y ≡ Equal → HasOneScope x y
unfolding scope_cmp
scope_exact x y e =
    let rest = then_second _ _ e in
    record {
      name = text_exact x.scope_name y.scope_name (then_first _ _ e);
      version = text_exact x.scope_version y.scope_version (then_first _ _ rest);
      attrs = attrs_exact x.scope_attrs y.scope_attrs (then_second _ _ rest);
    }

pub scope_tied : (x y : Identity) → HasOneScope x y → scope_cmp x y ≡ Equal
unfolding scope_cmp
scope_tied x y h =
    both_equal _ _ (tied text_total x.scope_name y.scope_name h.name)
    (both_equal _ _ (tied text_total x.scope_version y.scope_version h.version)
    (tied attrs_total x.scope_attrs y.scope_attrs h.attrs))

pub stream_exact : (x y : Identity) → stream_cmp x y ≡ Equal → HasOneStream x y
stream_exact x y e =
    let rest = then_second _ _ e in
    record {
      name = text_exact x.name y.name (then_first _ _ e);
      unit = text_exact x.unit y.unit (then_first _ _ rest);
      kind = kind_exact x.kind y.kind (then_second _ _ rest);
    }

pub stream_tied : (x y : Identity) → HasOneStream x y → stream_cmp x y ≡ Equal
stream_tied x y h =
    both_equal _ _ (tied text_total x.name y.name h.name)
    (both_equal _ _ (tied text_total x.unit y.unit h.unit)
    (tied kind_total x.kind y.kind h.kind))

-- ---- series

pub series_exact : IsAntisymmetric series_cmp
unfolding series_cmp metric_cmp
series_exact x y e =
    let rest = then_second _ _ e in
    let metric = then_second _ _ rest in
    let resource = resource_exact x y (then_first _ _ e) in
    let scope = scope_exact x y (then_first _ _ rest) in
    let stream = stream_exact x y (then_first _ _ metric) in
    let attrs = attrs_exact x.attrs y.attrs (then_second _ _ metric) in
    λ i. record {
      resource = resource i;
      scope_name = scope.name i;
      scope_version =
          scope.version i;
      scope_attrs = scope.attrs i;
      name = stream.name i;
      unit =
          stream.unit i;
      kind = stream.kind i;
      attrs = attrs i;
    }

-- series go by resource, scope, stream and the point's attributes
pub series_levels : (x y : Identity)
    → series_cmp x y ≡ ordering_then (resource_cmp x y)
    (ordering_then (scope_cmp x y) (ordering_then (stream_cmp x y) (attrs_cmp x.attrs y.attrs)))
unfolding series_cmp metric_cmp
series_levels x y = refl
