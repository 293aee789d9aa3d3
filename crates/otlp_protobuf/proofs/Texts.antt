-- Whether bytes are UTF-8, by a test and by the library's words.
use Rattle.std.proofs.Common.{◌≡◌, ℕ, List, Bool, true, false, Some, None, refl, ap}
use Rattle.std.specs.Prelude.{IsUtf8}
use Rattle.std.specs.Str.{is_utf8}
use Rattle.std.proofs.lemmas.Str.{IsUtf8-from_is_utf8, is_utf8-from_IsUtf8}
use Rattle.otlp_protobuf.specs.Fields.{if_text}

not_true : (b : Bool) → (b ≡ true → ⊥) → b ≡ false
not_true true h = absurd (h refl)
not_true false h = refl

pub no_text : (bytes : List ℕ) → (IsUtf8 bytes → ⊥) → is_utf8 bytes ≡ false
no_text bytes h = not_true (is_utf8 bytes) (λ t. h (IsUtf8-from_is_utf8 bytes t))

pub text_there : (bytes text : List ℕ) → text ≡ bytes → IsUtf8 bytes → Some text ≡ if_text bytes
text_there bytes text same is = let t : is_utf8 bytes ≡ true = is_utf8-from_IsUtf8 bytes is in
    rw t (ap (λ s. Some s) same)

pub text_absent : (bytes : List ℕ) → (IsUtf8 bytes → ⊥) → None ≡ if_text bytes
text_absent bytes h = let t : is_utf8 bytes ≡ false = no_text bytes h in rw t refl
