-- Values whose integers have 64 bits.
use Rattle.std.specs.List.{AllByRecursion}
use Rattle.series_id.specs.declared.scalars.Scalar.{Scalar}
use Rattle.series_id.specs.declared.scalars.Scalar.TheVariants.{Int}
use Rattle.series_id.specs.declared.values.AttrValue.{AttrValue}
use Rattle.series_id.specs.declared.values.AttrValue.TheVariants.{One, Many}
use Rattle.series_id.specs.Values.{IsInt}

-- a scalar that has 64 bits if it is an integer
abbrev pub IsNarrowScalar : Scalar → Type 0
IsNarrowScalar (Int n) = IsInt n
IsNarrowScalar x = Unit {0}

-- a value whose integers have 64 bits, as each value of the type has
abbrev pub IsNarrow : AttrValue → Type 0
IsNarrow (One x) = IsNarrowScalar x
IsNarrow (Many xs) = AllByRecursion IsNarrowScalar xs
