use Rattle.std.proofs.Common.{◌≡◌, ℕ, ◌<◌, false, List, length, take, refl, ap, arith, length-take}
use Rattle.std.specs.Str.{str_eq_ignore_ascii_case, str_to_ascii_lowercase}
use Rattle.std.proofs.lemmas.Bool.{false_from_ne_true}
use Rattle.std.proofs.lemmas.List.{length-map}
use Rattle.std.proofs.lemmas.Slice.Eq.{bytes_eq-Decides}
use Rattle.gate_workers.proofs.content.is_words.Goals as goal

-- texts of two lengths are not the same
differ : (a b : List ℕ) → length a < length b → str_eq_ignore_ascii_case a b ≡ false
differ a b h =
    let same = bytes_eq-Decides (str_to_ascii_lowercase a) (str_to_ascii_lowercase b) in
    false_from_ne_true (str_eq_ignore_ascii_case a b)
    (λ t. absurd (omega (arith, simp length-map at (ap length (same.0 t)))))

pub returns-in-None : goal.returns-in-None
returns-in-None c =
    let words = c.args.words.now in
    let value = c.args.value.now in
    rw (differ (take (length words) value) words
    (omega (arith, c.in-None.ensures.cases, length-take (length words) value))) refl
