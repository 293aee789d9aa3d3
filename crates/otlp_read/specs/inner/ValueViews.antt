-- The fields of a value, without the references.
use Rattle.otlp_read.specs.inner.RefViews.{found_data}
use Rattle.otlp_read.specs.declared.members.ValueFields.{ValueFields as Borrowed}
use Rattle.otlp_read.specs.Values.{ValueFields}

abbrev pub fields_data : Borrowed → ValueFields
fields_data f = record {
  text = found_data f.text;
  truth = found_data f.truth;
  int = found_data f.int;
  list = found_data f.list;
  other = f.other;
}
