use Rattle.std.proofs.Common.{codes}
use Rattle.std.specs.Map.Iter.{deref_pair}
use Rattle.std.proofs.lemmas.Map.Iter.{rest_more, rest_all}
use Rattle.otlp_read.specs.Values.{fields_of, has_other}
use Rattle.otlp_read.proofs.MemberLemmas.{passed_more, all_passed}
use Rattle.otlp_read.proofs.members.fields_of.Goals as goal

pub loop-name-preserved : goal.loop-name-preserved
loop-name-preserved c =
    let here = rest_more deref_pair c.loop-name.name-iterator c.next.new.self c.next.result
    (c.in-Some.name, c.in-Some.member) c.in-Some.is c.next.ensures.steps in
    let name = c.as_str-name.ensures.value in
    record {
      text = passed_more (codes "stringValue") _ _ _ _ _ _ here (rw name at c.set_if_named.ensures)
          c.loop-name.invariant.text;
      truth = passed_more (codes "boolValue") _ _ _ _ _ _ here
          (rw name at c.set_if_named-in-loop-name.ensures) c.loop-name.invariant.truth;
      int = passed_more (codes "intValue") _ _ _ _ _ _ here
          (rw name at c.set_if_named-in-loop-name-2.ensures) c.loop-name.invariant.int;
      list = passed_more (codes "arrayValue") _ _ _ _ _ _ here
          (rw name at c.set_if_named-in-loop-name-3.ensures) c.loop-name.invariant.list;
      double = passed_more (codes "doubleValue") _ _ _ _ _ _ here
          (rw name at c.set_if_named-in-loop-name-4.ensures) c.loop-name.invariant.double;
      map = passed_more (codes "kvlistValue") _ _ _ _ _ _ here
          (rw name at c.set_if_named-in-loop-name-5.ensures) c.loop-name.invariant.map;
      bytes = passed_more (codes "bytesValue") _ _ _ _ _ _ here
          (rw name at c.set_if_named-in-loop-name-6.ensures) c.loop-name.invariant.bytes;
    }

pub returns : goal.returns
unfolding fields_of has_other
returns c =
    let ordered = c.into_iter-name-iterator.ensures.into_iter_gives.5 in
    let none = rest_all deref_pair c.loop-name.name-iterator c.next.new.self c.next.result
    c.in-None.is c.next.ensures.steps in
    let m = c.args.members.now in
    rw (
      c.has_any.ensures,
      all_passed (codes "stringValue") m _ _ ordered none
          c.loop-name.invariant.text,
      all_passed (codes "boolValue") m _ _ ordered none
          c.loop-name.invariant.truth,
      all_passed (codes "intValue") m _ _ ordered none
          c.loop-name.invariant.int,
      all_passed (codes "arrayValue") m _ _ ordered none
          c.loop-name.invariant.list,
      all_passed (codes "doubleValue") m _ _ ordered none
          c.loop-name.invariant.double,
      all_passed (codes "kvlistValue") m _ _ ordered
          none c.loop-name.invariant.map,
      all_passed (codes "bytesValue") m
          _ _ ordered none c.loop-name.invariant.bytes,
    )
