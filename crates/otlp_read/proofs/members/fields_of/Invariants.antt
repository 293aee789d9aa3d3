use Rattle.std.proofs.Common.{◌≡◌, None, option_map, codes}
use Rattle.serde_json.specs.View.{view}
use Rattle.otlp_read.proofs.MemberLemmas.{passed}
use Rattle.otlp_read.proofs.members.fields_of.Given as goal

abbrev pub invariant-loop-name : goal.invariant-loop-name
invariant-loop-name l = record {
  text : passed (codes "stringValue") l.name-iterator (option_map (λ v. view v.now) l.text)
      ≡ passed (codes "stringValue") l.members.entries None;
  truth : passed (codes "boolValue") l.name-iterator (option_map (λ v. view v.now) l.truth)
      ≡ passed (codes "boolValue") l.members.entries None;
  int : passed (codes "intValue") l.name-iterator (option_map (λ v. view v.now) l.int)
      ≡ passed (codes "intValue") l.members.entries None;
  list : passed (codes "arrayValue") l.name-iterator (option_map (λ v. view v.now) l.list)
      ≡ passed (codes "arrayValue") l.members.entries None;
  double : passed (codes "doubleValue") l.name-iterator (option_map (λ v. view v.now) l.double)
      ≡ passed (codes "doubleValue") l.members.entries None;
  map : passed (codes "kvlistValue") l.name-iterator (option_map (λ v. view v.now) l.map)
      ≡ passed (codes "kvlistValue") l.members.entries None;
  bytes : passed (codes "bytesValue") l.name-iterator (option_map (λ v. view v.now) l.bytes)
      ≡ passed (codes "bytesValue") l.members.entries None;
}
