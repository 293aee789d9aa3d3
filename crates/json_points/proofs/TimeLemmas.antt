-- A value that is a text.
use Rattle.std.proofs.Common.{◌≡◌, ℕ, ◌-◌, ◌^◌, List, Option, Some, None, ap, refl}
use Rattle.serde_json.specs.Data.{Data, null, boolean, number, string, array, object}
use Rattle.serde_json.specs.Find.{as_str}
use Rattle.otlp_read.specs.Integers.{unsigned_64, unsigned_in, text_whole, up_to}

-- the number of a text
pub number_of_text : (d : Data) (s : List ℕ) → Some s ≡ as_str d
    → up_to (2 ^ 64 - 1) (text_whole s) ≡ unsigned_64 d
unfolding unsigned_in
number_of_text null s is = absurd cc
number_of_text (boolean b) s is = absurd cc
number_of_text (number n) s is = absurd cc
number_of_text (string t) s is = let e : s ≡ t = cc in ap (λ x. up_to (2 ^ 64 - 1) (text_whole x)) e
number_of_text (array ds) s is = absurd cc
number_of_text (object ms) s is = absurd cc
