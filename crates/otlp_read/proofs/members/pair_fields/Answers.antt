use Rattle.std.proofs.Common.{codes}
use Rattle.std.specs.Map.Iter.{deref_pair}
use Rattle.std.proofs.lemmas.Map.Iter.{rest_more, rest_all}
use Rattle.otlp_read.proofs.MemberLemmas.{passed_more, all_passed}
use Rattle.otlp_read.proofs.members.pair_fields.Goals as goal

pub loop-name-preserved : goal.loop-name-preserved
loop-name-preserved c =
    let here = rest_more deref_pair c.loop-name.name-iterator c.next.new.self c.next.result
    (c.in-Some.name, c.in-Some.member) c.in-Some.is c.next.ensures.steps in
    let name = c.as_str-name.ensures.value in
    record {
      key = passed_more (codes "key") _ _ _ _ _ _ here (rw name at c.set_if_named.ensures)
          c.loop-name.invariant.key;
      value = passed_more (codes "value") _ _ _ _ _ _ here
          (rw name at c.set_if_named-in-loop-name.ensures) c.loop-name.invariant.value;
    }

pub returns : goal.returns
returns c =
    let ordered = c.into_iter-name-iterator.ensures.into_iter_gives.5 in
    let none = rest_all deref_pair c.loop-name.name-iterator c.next.new.self c.next.result
    c.in-None.is c.next.ensures.steps in
    let m = c.args.members.now in
    record {
      key = all_passed (codes "key") m _ _ ordered none c.loop-name.invariant.key;
      value = all_passed (codes "value") m _ _ ordered none c.loop-name.invariant.value;
    }
