use Rattle.std.proofs.Common.{◌≡◌, ℕ, ◌<◌, ◌≤◌, List, ◌++◌, None, Some, length, take, ap, sym, ◌∙◌}
use Rattle.std.proofs.Common.{rules}
use Rattle.std.proofs.lemmas.List.{take-append-le}
use Rattle.std.specs.Prelude.{Option}
use Rattle.std.specs.Io.KnownBytes.{Consumes, IsAtEnd}
use Rattle.gateway_serve.proofs.piece_source.PieceSourceSource.read.Goals as goal

-- a read into the front of a buffer is a read into the buffer
gave_front : (a b : Option (List ℕ)) (part rest : List ℕ) (n : ℕ) → n ≤ length part
    → (0 < length (part ++ rest) → 0 < length part)
    → Consumes a b (take n part) → (n ≡ 0 → 0 < length part → IsAtEnd b)
    → Consumes a b (take n (part ++ rest)) × (n ≡ 0 → 0 < length (part ++ rest) → IsAtEnd a)
gave_front None b part rest n fits room read end = (tt, λ _ _. tt)
gave_front (Some xs) None part rest n fits room read end = absurd read
gave_front (Some xs) (Some ys) part rest n fits room read end = (
  read ∙ ap (λ l. l ++ ys) (sym (take-append-le n part rest fits)),
  λ zero some. read ∙ ap (λ k. take k part ++ ys) zero ∙ end zero (room some),
)

pub returns-in-Ok : goal.returns-in-Ok
returns-in-Ok g c =
    let read = c.in-Ok.ensures in
    record {
      bound = search rules;
      bytes = gave_front _ _ _ _ _ read.bound.0 (λ some. search rules) read.bytes.0 read.bytes.1;
      failed = search rules;
      given = search rules;
    }
