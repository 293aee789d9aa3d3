-- The name and the kind of a series in reports and replies.
use Rattle.std.specs.Prelude.{ℕ, ℤ, List, [], ◌∷◌, ◌++◌, codes, if◌then◌else◌}
use Rattle.std.specs.Fmt.{signed_decimal}
use Rattle.series_id.specs.Identity.{Identity}
use Rattle.series_id.specs.declared.scalars.Scalar.{Scalar}
use Rattle.series_id.specs.declared.scalars.Scalar.TheVariants.{Empty, Truth, Int, Text}
use Rattle.series_id.specs.declared.values.AttrValue.{AttrValue}
use Rattle.series_id.specs.declared.values.AttrValue.TheVariants.{One, Many}
use Rattle.series_id.specs.declared.attributes.Attribute.{Attribute}
use Rattle.series_id.specs.declared.kinds.Kind.{Kind}
use Rattle.series_id.specs.declared.kinds.Kind.TheVariants.{Sum, Histogram}
use Rattle.out_texts.specs.Escaped.{escaped}
use Rattle.out_texts.specs.Rows.{joined}

-- nothing, true, false, a number, or a text in quotes
unfoldable pub scalar_text : Scalar → List ℕ
scalar_text Empty = []
scalar_text (Truth truth) = if truth then codes "true" else codes "false"
scalar_text (Int n) = signed_decimal n
scalar_text (Text text) = 34 ∷ [] ++ escaped text ++ 34 ∷ []

unfoldable pub scalars_text : List Scalar → List ℕ
scalars_text scalars = joined 59 scalar_text scalars

-- a single value, or a list in brackets with semicolons in between
unfoldable pub value_text : AttrValue → List ℕ
value_text (One scalar) = scalar_text scalar
value_text (Many scalars) = 91 ∷ [] ++ scalars_text scalars ++ 93 ∷ []

unfoldable pub attribute_text : Attribute → List ℕ
attribute_text a = escaped a.key ++ 61 ∷ [] ++ value_text a.value

unfoldable pub attributes_text : List Attribute → List ℕ
attributes_text attributes = joined 44 attribute_text attributes

-- attributes in braces, with commas in between; nothing if there are none
unfoldable pub braced : List Attribute → List ℕ
braced [] = []
braced (a ∷ attributes) = 123 ∷ [] ++ attributes_text (a ∷ attributes) ++ 125 ∷ []

-- the metric's name, and the point attributes
unfoldable pub series_name : Identity → List ℕ
series_name x = escaped x.name ++ braced x.attrs

unfoldable pub bounds_text : List ℤ → List ℕ
bounds_text bounds = joined 59 signed_decimal bounds

-- whether a sum is monotonic, or the bounds of a histogram
unfoldable pub kind_text : Kind → List ℕ
kind_text (Sum monotonic) = if monotonic then codes "monotonic" else codes "sum"
kind_text (Histogram bounds) = codes "histogram[" ++ bounds_text bounds ++ 93 ∷ []
