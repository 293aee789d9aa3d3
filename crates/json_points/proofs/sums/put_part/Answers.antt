use Rattle.std.proofs.Common.{refl}
use Rattle.std.specs.Prelude.{codes}
use Rattle.json_points.specs.inner.Nodes.{data_at}
use Rattle.json_points.proofs.PartLemmas.{here, beside, apart}
use Rattle.json_points.proofs.sums.put_part.Goals as goal

pub returns-then-is_named : goal.returns-then-is_named
returns-then-is_named c before has = record {
  start = beside c.args.name.now (codes "startTimeUnixNano") (data_at c.args.value) before
      _ (apart c.args.name.now (codes "attributes") (codes "startTimeUnixNano")
      c.if-is_named.ensures refl) has.start;
  end = beside c.args.name.now (codes "timeUnixNano") (data_at c.args.value) before
      _ (apart c.args.name.now (codes "attributes") (codes "timeUnixNano") c.if-is_named.ensures
      refl) has.end;
  value = beside c.args.name.now (codes "asInt") (data_at c.args.value) before
      _ (apart c.args.name.now (codes "attributes") (codes "asInt") c.if-is_named.ensures refl)
      has.value;
  flags = beside c.args.name.now (codes "flags") (data_at c.args.value) before
      _ (apart c.args.name.now (codes "attributes") (codes "flags") c.if-is_named.ensures refl)
      has.flags;
  double = beside c.args.name.now (codes "asDouble") (data_at c.args.value) before
      _ (apart c.args.name.now (codes "attributes") (codes "asDouble") c.if-is_named.ensures refl)
      has.double;
  attributes = here c.args.name.now (codes "attributes") (data_at c.args.value) before
      _ c.if-is_named.ensures c.present-found.ensures;
}

pub returns-then-is_named-2 : goal.returns-then-is_named-2
returns-then-is_named-2 c before has = record {
  start = here c.args.name.now (codes "startTimeUnixNano") (data_at c.args.value) before
      _ c.if-is_named-2.ensures c.present-found.ensures;
  end = beside c.args.name.now (codes "timeUnixNano") (data_at c.args.value) before
      _ (apart c.args.name.now (codes "startTimeUnixNano") (codes "timeUnixNano")
      c.if-is_named-2.ensures refl) has.end;
  value = beside c.args.name.now (codes "asInt") (data_at c.args.value) before
      _ (apart c.args.name.now (codes "startTimeUnixNano") (codes "asInt") c.if-is_named-2.ensures
      refl) has.value;
  flags = beside c.args.name.now (codes "flags") (data_at c.args.value) before
      _ (apart c.args.name.now (codes "startTimeUnixNano") (codes "flags") c.if-is_named-2.ensures
      refl) has.flags;
  double = beside c.args.name.now (codes "asDouble") (data_at c.args.value) before
      _ (apart c.args.name.now (codes "startTimeUnixNano") (codes "asDouble")
      c.if-is_named-2.ensures refl) has.double;
  attributes = beside c.args.name.now (codes "attributes") (data_at c.args.value) before
      _ (apart c.args.name.now (codes "startTimeUnixNano") (codes "attributes")
      c.if-is_named-2.ensures refl) has.attributes;
}

pub returns-then-is_named-3 : goal.returns-then-is_named-3
returns-then-is_named-3 c before has = record {
  start = beside c.args.name.now (codes "startTimeUnixNano") (data_at c.args.value) before
      _ (apart c.args.name.now (codes "timeUnixNano") (codes "startTimeUnixNano")
      c.if-is_named-3.ensures refl) has.start;
  end = here c.args.name.now (codes "timeUnixNano") (data_at c.args.value) before
      _ c.if-is_named-3.ensures c.present-found.ensures;
  value = beside c.args.name.now (codes "asInt") (data_at c.args.value) before
      _ (apart c.args.name.now (codes "timeUnixNano") (codes "asInt") c.if-is_named-3.ensures refl)
      has.value;
  flags = beside c.args.name.now (codes "flags") (data_at c.args.value) before
      _ (apart c.args.name.now (codes "timeUnixNano") (codes "flags") c.if-is_named-3.ensures refl)
      has.flags;
  double = beside c.args.name.now (codes "asDouble") (data_at c.args.value) before
      _ (apart c.args.name.now (codes "timeUnixNano") (codes "asDouble") c.if-is_named-3.ensures
      refl) has.double;
  attributes = beside c.args.name.now (codes "attributes") (data_at c.args.value) before
      _ (apart c.args.name.now (codes "timeUnixNano") (codes "attributes") c.if-is_named-3.ensures
      refl) has.attributes;
}

pub returns-then-is_named-4 : goal.returns-then-is_named-4
returns-then-is_named-4 c before has = record {
  start = beside c.args.name.now (codes "startTimeUnixNano") (data_at c.args.value) before
      _ (apart c.args.name.now (codes "asInt") (codes "startTimeUnixNano") c.if-is_named-4.ensures
      refl) has.start;
  end = beside c.args.name.now (codes "timeUnixNano") (data_at c.args.value) before
      _ (apart c.args.name.now (codes "asInt") (codes "timeUnixNano") c.if-is_named-4.ensures refl)
      has.end;
  value = here c.args.name.now (codes "asInt") (data_at c.args.value) before
      _ c.if-is_named-4.ensures c.present-found.ensures;
  flags = beside c.args.name.now (codes "flags") (data_at c.args.value) before
      _ (apart c.args.name.now (codes "asInt") (codes "flags") c.if-is_named-4.ensures refl)
      has.flags;
  double = beside c.args.name.now (codes "asDouble") (data_at c.args.value) before
      _ (apart c.args.name.now (codes "asInt") (codes "asDouble") c.if-is_named-4.ensures refl)
      has.double;
  attributes = beside c.args.name.now (codes "attributes") (data_at c.args.value) before
      _ (apart c.args.name.now (codes "asInt") (codes "attributes") c.if-is_named-4.ensures refl)
      has.attributes;
}

pub returns-then-is_named-5 : goal.returns-then-is_named-5
returns-then-is_named-5 c before has = record {
  start = beside c.args.name.now (codes "startTimeUnixNano") (data_at c.args.value) before
      _ (apart c.args.name.now (codes "asDouble") (codes "startTimeUnixNano")
      c.if-is_named-5.ensures refl) has.start;
  end = beside c.args.name.now (codes "timeUnixNano") (data_at c.args.value) before
      _ (apart c.args.name.now (codes "asDouble") (codes "timeUnixNano") c.if-is_named-5.ensures
      refl) has.end;
  value = beside c.args.name.now (codes "asInt") (data_at c.args.value) before
      _ (apart c.args.name.now (codes "asDouble") (codes "asInt") c.if-is_named-5.ensures refl)
      has.value;
  flags = beside c.args.name.now (codes "flags") (data_at c.args.value) before
      _ (apart c.args.name.now (codes "asDouble") (codes "flags") c.if-is_named-5.ensures refl)
      has.flags;
  double = here c.args.name.now (codes "asDouble") (data_at c.args.value) before
      _ c.if-is_named-5.ensures c.present-found.ensures;
  attributes = beside c.args.name.now (codes "attributes") (data_at c.args.value) before
      _ (apart c.args.name.now (codes "asDouble") (codes "attributes") c.if-is_named-5.ensures refl)
      has.attributes;
}

pub returns-then-is_named-6 : goal.returns-then-is_named-6
returns-then-is_named-6 c before has = record {
  start = beside c.args.name.now (codes "startTimeUnixNano") (data_at c.args.value) before
      _ (apart c.args.name.now (codes "flags") (codes "startTimeUnixNano") c.if-is_named-6.ensures
      refl) has.start;
  end = beside c.args.name.now (codes "timeUnixNano") (data_at c.args.value) before
      _ (apart c.args.name.now (codes "flags") (codes "timeUnixNano") c.if-is_named-6.ensures refl)
      has.end;
  value = beside c.args.name.now (codes "asInt") (data_at c.args.value) before
      _ (apart c.args.name.now (codes "flags") (codes "asInt") c.if-is_named-6.ensures refl)
      has.value;
  flags = here c.args.name.now (codes "flags") (data_at c.args.value) before
      _ c.if-is_named-6.ensures c.present-found.ensures;
  double = beside c.args.name.now (codes "asDouble") (data_at c.args.value) before
      _ (apart c.args.name.now (codes "flags") (codes "asDouble") c.if-is_named-6.ensures refl)
      has.double;
  attributes = beside c.args.name.now (codes "attributes") (data_at c.args.value) before
      _ (apart c.args.name.now (codes "flags") (codes "attributes") c.if-is_named-6.ensures refl)
      has.attributes;
}

pub returns-else-is_named-6 : goal.returns-else-is_named-6
returns-else-is_named-6 c before has = record {
  start = beside c.args.name.now (codes "startTimeUnixNano") (data_at c.args.value) before
      _ c.if-is_named-2.ensures has.start;
  end = beside c.args.name.now (codes "timeUnixNano") (data_at c.args.value) before
      _ c.if-is_named-3.ensures has.end;
  value = beside c.args.name.now (codes "asInt") (data_at c.args.value) before
      _ c.if-is_named-4.ensures has.value;
  flags = beside c.args.name.now (codes "flags") (data_at c.args.value) before
      _ c.if-is_named-6.ensures has.flags;
  double = beside c.args.name.now (codes "asDouble") (data_at c.args.value) before
      _ c.if-is_named-5.ensures has.double;
  attributes = beside c.args.name.now (codes "attributes") (data_at c.args.value) before
      _ c.if-is_named.ensures has.attributes;
}
