use Rattle.std.proofs.Common.{◌≡◌, None, option_map, codes}
use Rattle.serde_json.specs.View.{view}
use Rattle.otlp_read.proofs.MemberLemmas.{passed}
use Rattle.otlp_read.proofs.members.pair_fields.Given as goal

abbrev pub invariant-loop-name : goal.invariant-loop-name
invariant-loop-name l = record {
  key : passed (codes "key") l.name-iterator (option_map (λ v. view v.now) l.key)
      ≡ passed (codes "key") l.members.entries None;
  value : passed (codes "value") l.name-iterator (option_map (λ v. view v.now) l.value)
      ≡ passed (codes "value") l.members.entries None;
}
