-- Which book a series belongs to: by a hash of its identity.
use Rattle.std.specs.Prelude.{ℕ, ◌%◌, fold}
use Rattle.std.specs.Hash.FoldHasher.{initial, write, finish}
use Rattle.std.specs.Hash as fed
use Rattle.std.specs.declared.hash.FoldHasher.{FoldHasher}
use Rattle.series_id.specs.Identity.{Identity}
use Rattle.series_id.specs.declared.attributes.Attribute.{Attribute}
use Rattle.series_id.specs.declared.scalars.Scalar.TheVariants.{Int, Text}
use Rattle.series_id.specs.declared.values.AttrValue.{AttrValue}
use Rattle.series_id.specs.declared.values.AttrValue.TheVariants.{One}

-- the value of an attribute is added, if it is a text or an integer
abbrev pub with_value : FoldHasher → AttrValue → FoldHasher
with_value h (One (Text t)) = write h t
with_value h (One (Int n)) = fold write h (fed.i64 n)
with_value h v = h

abbrev pub with_attribute : FoldHasher → Attribute → FoldHasher
with_attribute h a = with_value h a.value

-- the hash of an identity
unfoldable pub hash : Identity → ℕ
hash x =
    finish (fold with_attribute (write (fold with_attribute initial x.resource) x.name) x.attrs)

-- the book of a series, of so many
unfoldable pub home : ℕ → Identity → ℕ
home books x = hash x % books
