use Rattle.std.proofs.Common.{codes, refl, sym}
use Rattle.serde_json.specs.View.{view}
use Rattle.otlp_read.specs.Fields.{nanos_in}
use Rattle.otlp_read.specs.Histograms.{histogram_fields}
use Rattle.otlp_read.proofs.MemberLemmas.{object_is, no_field}
use Rattle.otlp_read.proofs.histograms.histogram_fields.Goals as goal

pub returns-in_err-as_object-clause-fields : goal.returns-in_err-as_object-clause-fields
unfolding histogram_fields nanos_in
returns-in_err-as_object-clause-fields c =
    rw (
      c.from_residual.ensures,
      no_field (codes "startTimeUnixNano") (view c.args.value.now)
          (sym c.in_err-as_object.ensures),
    ) refl

pub returns-then-flags_fit-clause-fields : goal.returns-then-flags_fit-clause-fields
unfolding histogram_fields
returns-then-flags_fit-clause-fields c =
    let is = object_is (view c.args.value.now) _ (sym c.in_ok-as_object.ensures) in
    let read = c.point_members-members.ensures in
    rw (
      is,
      ← read.start,
      ← c.in_ok-start.ensures,
      ← read.end,
      ← c.in_ok-end.ensures,
      ← read.count,
      ← c.in_ok-count.ensures,
      ← read.total,
      ← c.in_ok-total.ensures,
      ← read.flags,
      ←
          c.if-flags_fit.ensures,
    ) refl
