use Rattle.std.proofs.Common.{◌≡◌, None, option_map, codes}
use Rattle.serde_json.specs.View.{view}
use Rattle.otlp_read.proofs.MemberLemmas.{passed}
use Rattle.otlp_read.proofs.members.point_members.Given as goal

abbrev pub invariant-loop-name : goal.invariant-loop-name
invariant-loop-name l = record {
  start : passed (codes "startTimeUnixNano") l.name-iterator (option_map (λ v. view v.now) l.start)
      ≡ passed (codes "startTimeUnixNano") l.members.entries None;
  end : passed (codes "timeUnixNano") l.name-iterator (option_map (λ v. view v.now) l.end)
      ≡ passed (codes "timeUnixNano") l.members.entries None;
  flags : passed (codes "flags") l.name-iterator (option_map (λ v. view v.now) l.flags)
      ≡ passed (codes "flags") l.members.entries None;
  attributes : passed (codes "attributes") l.name-iterator
      (option_map (λ v. view v.now) l.attributes)
      ≡ passed (codes "attributes") l.members.entries None;
  number : passed (codes "asInt") l.name-iterator (option_map (λ v. view v.now) l.number)
      ≡ passed (codes "asInt") l.members.entries None;
  double : passed (codes "asDouble") l.name-iterator (option_map (λ v. view v.now) l.double)
      ≡ passed (codes "asDouble") l.members.entries None;
  count : passed (codes "count") l.name-iterator (option_map (λ v. view v.now) l.count)
      ≡ passed (codes "count") l.members.entries None;
  total : passed (codes "sum") l.name-iterator (option_map (λ v. view v.now) l.total)
      ≡ passed (codes "sum") l.members.entries None;
  buckets : passed (codes "bucketCounts") l.name-iterator (option_map (λ v. view v.now) l.buckets)
      ≡ passed (codes "bucketCounts") l.members.entries None;
  bounds : passed (codes "explicitBounds") l.name-iterator (option_map (λ v. view v.now) l.bounds)
      ≡ passed (codes "explicitBounds") l.members.entries None;
}
