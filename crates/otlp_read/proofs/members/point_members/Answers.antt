use Rattle.std.proofs.Common.{codes}
use Rattle.std.specs.Map.Iter.{deref_pair}
use Rattle.std.proofs.lemmas.Map.Iter.{rest_more, rest_all}
use Rattle.otlp_read.proofs.MemberLemmas.{passed_more, all_passed}
use Rattle.otlp_read.proofs.members.point_members.Goals as goal

pub loop-name-preserved : goal.loop-name-preserved
loop-name-preserved c =
    let here = rest_more deref_pair c.loop-name.name-iterator c.next.new.self c.next.result
    (c.in-Some.name, c.in-Some.member) c.in-Some.is c.next.ensures.steps in
    let name = c.as_str-name.ensures.value in
    record {
      start = passed_more (codes "startTimeUnixNano") _ _ _ _ _ _ here
          (rw name at c.set_if_named.ensures) c.loop-name.invariant.start;
      end = passed_more (codes "timeUnixNano") _ _ _ _ _ _ here
          (rw name at c.set_if_named-in-loop-name.ensures) c.loop-name.invariant.end;
      flags = passed_more (codes "flags") _ _ _ _ _ _ here
          (rw name at c.set_if_named-in-loop-name-2.ensures) c.loop-name.invariant.flags;
      attributes = passed_more (codes "attributes") _ _ _ _ _ _ here
          (rw name at c.set_if_named-in-loop-name-3.ensures) c.loop-name.invariant.attributes;
      number = passed_more (codes "asInt") _ _ _ _ _ _ here
          (rw name at c.set_if_named-in-loop-name-4.ensures) c.loop-name.invariant.number;
      double = passed_more (codes "asDouble") _ _ _ _ _ _ here
          (rw name at c.set_if_named-in-loop-name-5.ensures) c.loop-name.invariant.double;
      count = passed_more (codes "count") _ _ _ _ _ _ here
          (rw name at c.set_if_named-in-loop-name-6.ensures) c.loop-name.invariant.count;
      total = passed_more (codes "sum") _ _ _ _ _ _ here
          (rw name at c.set_if_named-in-loop-name-7.ensures) c.loop-name.invariant.total;
      buckets = passed_more (codes "bucketCounts") _ _ _ _ _ _ here
          (rw name at c.set_if_named-in-loop-name-8.ensures) c.loop-name.invariant.buckets;
      bounds = passed_more (codes "explicitBounds") _ _ _ _ _ _ here
          (rw name at c.set_if_named-in-loop-name-9.ensures) c.loop-name.invariant.bounds;
    }

pub returns : goal.returns
returns c =
    let ordered = c.into_iter-name-iterator.ensures.into_iter_gives.5 in
    let none = rest_all deref_pair c.loop-name.name-iterator c.next.new.self c.next.result
    c.in-None.is c.next.ensures.steps in
    let m = c.args.members.now in
    record {
      start = all_passed (codes "startTimeUnixNano") m _ _ ordered none c.loop-name.invariant.start;
      end = all_passed (codes "timeUnixNano") m _ _ ordered none c.loop-name.invariant.end;
      flags = all_passed (codes "flags") m _ _ ordered none c.loop-name.invariant.flags;
      attributes =
          all_passed (codes "attributes") m _ _ ordered none c.loop-name.invariant.attributes;
      number = all_passed (codes "asInt") m _ _ ordered none c.loop-name.invariant.number;
      double = all_passed (codes "asDouble") m _ _ ordered none c.loop-name.invariant.double;
      count = all_passed (codes "count") m _ _ ordered none c.loop-name.invariant.count;
      total = all_passed (codes "sum") m _ _ ordered none c.loop-name.invariant.total;
      buckets = all_passed (codes "bucketCounts") m _ _ ordered none c.loop-name.invariant.buckets;
      bounds = all_passed (codes "explicitBounds") m _ _ ordered none c.loop-name.invariant.bounds;
    }
