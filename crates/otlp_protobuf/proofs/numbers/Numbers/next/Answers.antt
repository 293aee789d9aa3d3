use Rattle.std.proofs.Common.{◌∷◌}
use Rattle.otlp_protobuf.specs.inner.NumberViews.{numbers_data}
use Rattle.otlp_protobuf.proofs.NumberLemmas.{packed_step, packed_end}
use Rattle.otlp_protobuf.proofs.numbers.Numbers.next.Goals as goal

pub returns-in-Some : goal.returns-in-Some
returns-in-Some c = packed_step _ _ _ _ c.in-Some.ensures

pub returns-in-None : goal.returns-in-None
returns-in-None c = packed_end c.next_field.result _ _ (λ n. n ∷ numbers_data c.next_field.new.self)
    c.in-None.ensures c.next_field.ensures
