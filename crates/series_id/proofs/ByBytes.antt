-- Identities that are shared are compared by the bytes that say all of them.
use Rattle.std.proofs.Common.{◌≡◌, ℕ, Bool, true, false, List, refl, sym, ap, ◌∙◌}
use Rattle.std.specs.Prelude.{IsTrue, ◌↔◌}
use Rattle.std.specs.Bool.{Decides}
use Rattle.series_id.specs.Identity.{Identity, IsIdentity}
use Rattle.series_id.specs.Order.{same_series}
use Rattle.series_id.specs.inner.Written.{written}
use Rattle.series_id.proofs.Order.{same_series-decides}
use Rattle.series_id.proofs.Telling.{written_tells}

-- a test of the bytes decides whether two identities are one
pub bytes-decide : (x y : Identity) → IsIdentity x → IsIdentity y → (b : Bool)
    → Decides b (written x ≡ written y) → IsTrue b ↔ (x ≡ y)
bytes-decide x y p q b d = (λ h. written_tells x y p q (d.0 h), λ same. d.1 (ap written same))

one_answer : (a b : Bool) → (a ≡ true → b ≡ true) → (b ≡ true → a ≡ true) → a ≡ b
one_answer true true f g = refl
one_answer false false f g = refl
one_answer true false f g = sym (f refl)
one_answer false true f g = g refl

-- so it answers as the test of their order
pub bytes-same : (x y : Identity) → IsIdentity x → IsIdentity y → (b : Bool)
    → Decides b (written x ≡ written y) → b ≡ same_series x y
bytes-same x y p q b d =
    let mine = bytes-decide x y p q b d in
    let its = same_series-decides x y (same_series x y) refl in
    one_answer b (same_series x y) (λ h. its.1 (mine.0 h)) (λ h. mine.1 (its.0 h))

-- the same of bytes that are those of the identities
pub answers : (x y : Identity) (u v : List ℕ) (b : Bool) → IsIdentity x → IsIdentity y
    → u ≡ written x → v ≡ written y → Decides b (u ≡ v)
    → (b ≡ same_series x y) × (IsTrue b ↔ (x ≡ y))
answers x y u v b p q j k d =
    let e : Decides b (written x ≡ written y) =
    ((λ h. sym j ∙ d.0 h ∙ k), λ h. d.1 (j ∙ h ∙ sym k)) in
    (bytes-same x y p q b e, bytes-decide x y p q b e)
