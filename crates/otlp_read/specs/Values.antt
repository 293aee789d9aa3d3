-- Values of attributes (`AnyValue` of the standard): one scalar, or a list of scalars.
use Rattle.std.specs.Prelude.{List, Bool, ◌||◌, if◌then◌else◌, Option, Some, None, option_map}
use Rattle.std.specs.Prelude.{is_some, codes}
use Rattle.serde_json.specs.Data.{Data}
use Rattle.serde_json.specs.Find.{as_str, as_bool}
use Rattle.series_id.specs.declared.scalars.Scalar.{Scalar}
use Rattle.series_id.specs.declared.scalars.Scalar.TheVariants.{Empty, Truth, Int, Text}
use Rattle.series_id.specs.declared.values.AttrValue.{AttrValue}
use Rattle.series_id.specs.declared.values.AttrValue.TheVariants.{One, Many}
use Rattle.otlp_read.specs.Integers.{signed_64}
use Rattle.otlp_read.specs.Fields.{field}
use Rattle.otlp_read.specs.Containers.{is_object}
use Rattle.otlp_read.specs.Lists.{list_in}

-- the fields of a value that are present; `other` if there is one that no series may have
pub record ValueFields : Type 0 where
  pub text : Option Data
  pub truth : Option Data
  pub int : Option Data
  pub list : Option Data
  pub other : Bool

-- a double, a map or bytes
unfoldable pub has_other : Data → Bool
has_other d =
    is_some (field (codes "doubleValue") d) || is_some (field (codes "kvlistValue") d)
    || is_some (field (codes "bytesValue") d)

-- the fields of a value
unfoldable pub fields_of : Data → ValueFields
fields_of d = record {
  text = field (codes "stringValue") d;
  truth = field (codes "boolValue") d;
  int = field (codes "intValue") d;
  list = field (codes "arrayValue") d;
  other = has_other d;
}

-- a text, a boolean or a whole number of 64 bits; the empty value without any of them; none if
-- there are two
abbrev pub only_of : Option Data → Option Data → Option Data → Option Scalar
only_of None None None = Some Empty
only_of (Some d) None None = option_map Text (as_str d)
only_of None (Some d) None = option_map Truth (as_bool d)
only_of None None (Some d) = option_map Int (signed_64 d)
only_of text truth int = None

-- a scalar, if there is neither a list nor one of the other values
unfoldable pub scalar_of : ValueFields → Option Scalar
scalar_of fields =
    if fields.other || is_some fields.list then None
    else only_of fields.text fields.truth fields.int

-- the scalar of an element of a list, which is an object
unfoldable pub scalar_in : Data → Option Scalar
scalar_in d = if is_object d then scalar_of (fields_of d) else None

-- arrayValue: an object whose values are scalars; absent values are the empty list
unfoldable pub scalars_of : Data → Option (List Scalar)
scalars_of d = if is_object d then list_in scalar_in (field (codes "values") d) else None

-- a list, if there is no other value
unfoldable pub many_of : ValueFields → Data → Option AttrValue
many_of fields list =
    if fields.other || is_some fields.text || is_some fields.truth || is_some fields.int then None
    else option_map Many (scalars_of list)

-- a list if its field is present, else a scalar
abbrev pub value_of_fields : ValueFields → Option Data → Option AttrValue
value_of_fields fields None = option_map One (scalar_of fields)
value_of_fields fields (Some list) = many_of fields list

-- the value of an object
unfoldable pub value_of : Data → Option AttrValue
value_of d = if is_object d then value_of_fields (fields_of d) (fields_of d).list else None

-- the value of an attribute; absent is the empty value
unfoldable pub value_in : Option Data → Option AttrValue
value_in None = Some (One Empty)
value_in (Some d) = value_of d
