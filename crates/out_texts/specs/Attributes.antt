-- Attributes as JSON.
use Rattle.std.specs.Prelude.{List, map, codes}
use Rattle.std.specs.Fmt.{signed_decimal}
use Rattle.serde_json.specs.Data.{Data, boolean, string, array, object, no_members, member}
use Rattle.serde_json.specs.View.{items_of}
use Rattle.series_id.specs.declared.scalars.Scalar.{Scalar}
use Rattle.series_id.specs.declared.scalars.Scalar.TheVariants.{Empty, Truth, Int, Text}
use Rattle.series_id.specs.declared.values.AttrValue.{AttrValue}
use Rattle.series_id.specs.declared.values.AttrValue.TheVariants.{One, Many}
use Rattle.series_id.specs.declared.attributes.Attribute.{Attribute}

-- a single value under the name of its type; the empty value has no member
unfoldable pub scalar_value : Scalar → Data
scalar_value Empty = object no_members
scalar_value (Truth b) = object (member (codes "boolValue") (boolean b) no_members)
scalar_value (Int n) = object (member (codes "intValue") (string (signed_decimal n)) no_members)
scalar_value (Text t) = object (member (codes "stringValue") (string t) no_members)

-- a single value, or a list of them
unfoldable pub attr_value : AttrValue → Data
attr_value (One x) = scalar_value x
attr_value (Many xs) =
    object (member (codes "arrayValue") (object (member (codes "values")
    (array (items_of (map scalar_value xs))) no_members)) no_members)

-- a key and its value
unfoldable pub attribute_value : Attribute → Data
attribute_value a =
    object (member (codes "key") (string a.key) (member (codes "value")
    (attr_value a.value) no_members))

-- the attributes of a set, in key order
unfoldable pub attributes_value : List Attribute → Data
attributes_value set = array (items_of (map attribute_value set))
