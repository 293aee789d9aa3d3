-- The sign of a text.
use Rattle.std.proofs.Common.{◌≡◌, ◌≢◌, ℕ, false, eqb, List, [], ◌∷◌, option_map, refl, sym, ap}
use Rattle.std.proofs.Common.{pos}
use Rattle.std.proofs.lemmas.Bool.{ne_eqb, cond-false}
use Rattle.otlp_read.specs.Integers.{magnitude, text_whole}

pub plain_text : (bs : List ℕ) → ((rest : List ℕ) → bs ≢ 45 ∷ rest)
    → option_map pos (magnitude bs) ≡ text_whole bs
unfolding magnitude
plain_text [] h = refl
plain_text (b ∷ bs) h =
    let other : eqb b 45 ≡ false = ne_eqb b 45 (λ e. h bs (ap (λ x. x ∷ bs) e)) in
    sym (cond-false (eqb b 45) _ _ other)
