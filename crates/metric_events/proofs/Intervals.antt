-- What makes an interval.
use Rattle.std.proofs.Common.{◌<◌, ◌≤◌, ◌^◌}
use Rattle.std.specs.Prelude.{nat_le, nat_lt}
use Rattle.std.proofs.lemmas.Bool.{and_parts, and_from, le-leb, leb-true, lt-ltb, ltb-true}
use Rattle.metric_events.specs.Interval.{Interval, IsInterval}

pub starts : (span : Interval) → IsInterval span → 1 ≤ span.start
starts span h =
    leb-true 1 span.start (and_parts (nat_le 1 span.start) (nat_lt span.start span.end) h.valid).0

pub ends_after : (span : Interval) → IsInterval span → span.start < span.end
ends_after span h = ltb-true span.start span.end
    (and_parts (nat_le 1 span.start) (nat_lt span.start span.end) h.valid).1

pub interval_is : (span : Interval) → 1 ≤ span.start → span.start < span.end → span.end < 2 ^ 64
    → IsInterval span
interval_is span s e f = record {
  valid =
      and_from (nat_le 1 span.start) (nat_lt span.start span.end) (le-leb 1 span.start s)
      (lt-ltb span.start span.end e);
  fits = f;
}
