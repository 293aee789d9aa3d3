use Rattle.std.proofs.Common.{codes, refl, rules, sym, w64}
use Rattle.std.proofs.lemmas.Int.{to_z-of_z}
use Rattle.std.specs.Prelude.{FitsSigned}
use Rattle.serde_json.specs.View.{view}
use Rattle.otlp_read.specs.Fields.{nanos_in}
use Rattle.otlp_read.specs.Sums.{sum_fields, is_whole_value}
use Rattle.otlp_read.proofs.MemberLemmas.{object_is, no_field}
use Rattle.otlp_read.proofs.sums.sum_fields.Goals as goal

pub returns-in_err-as_object-clause-fields : goal.returns-in_err-as_object-clause-fields
unfolding sum_fields nanos_in
returns-in_err-as_object-clause-fields c =
    rw (
      c.from_residual.ensures,
      no_field (codes "startTimeUnixNano") (view c.args.value.now)
          (sym c.in_err-as_object.ensures),
    ) refl

pub returns-else-is_whole_value-clause-fields : goal.returns-else-is_whole_value-clause-fields
unfolding sum_fields is_whole_value
returns-else-is_whole_value-clause-fields c =
    let is = object_is (view c.args.value.now) _ (sym c.in_ok-as_object.ensures) in
    let read = c.point_members-members.ensures in
    rw (
      is,
      ← read.start,
      ← c.in_ok-start.ensures,
      ← read.end,
      ← c.in_ok-end.ensures,
      ← read.number,
      ← c.in_ok-number.ensures,
      ← read.flags,
      ← read.double,
      ← c.if-is_whole_value.ensures,
    ) refl

pub returns-then-is_whole_value-clause-fields : goal.returns-then-is_whole_value-clause-fields
unfolding sum_fields is_whole_value
returns-then-is_whole_value-clause-fields c =
    let f : FitsSigned w64 c.in_ok-number.number = search rules in
    let is = object_is (view c.args.value.now) _ (sym c.in_ok-as_object.ensures) in
    let read = c.point_members-members.ensures in
    rw (
      is,
      ← read.start,
      ← c.in_ok-start.ensures,
      ← read.end,
      ← c.in_ok-end.ensures,
      ← read.number,
      ← c.in_ok-number.ensures,
      ← read.flags,
      ← read.double,
      ← c.if-is_whole_value.ensures,
      to_z-of_z,
    ) refl
