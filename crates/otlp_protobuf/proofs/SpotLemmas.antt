-- Where the numbers of a list are.
use Rattle.std.proofs.Common.{◌≡◌, ◌≤◌, ℕ, List, [], ◌∷◌, ◌++◌, length, arith}
use Rattle.otlp_protobuf.specs.Fields.{packed_from, packed}

-- the first field that has numbers
pub first_spot : (before content after all : List ℕ) → length before ≤ 0
    → packed before ++ (packed content ++ after) ≡ all → packed content ++ after ≡ all
unfolding packed_from
first_spot [] content after all none is = is
first_spot (b ∷ bs) content after all none is = absurd (omega arith)
