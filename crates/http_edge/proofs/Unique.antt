-- Bytes begin with at most one message, and not also with one that is too long.
use Rattle.std.proofs.Common.{◌≡◌, ℕ, List, [], ◌∷◌, ◌++◌, length, Option, Some, None, refl, sym}
use Rattle.std.proofs.Common.{ap, subst, ◌∙◌, arith}
use Rattle.httparse.specs.Grammar.{RequestHead, chunk_size}
use Rattle.httparse.proofs.ChunkLemmas.{chunk_line_unique}
use Rattle.httparse.proofs.GrammarLemmas.{request_unique}
use Rattle.http_edge.specs.declared.framing.Framing.{Framing}
use Rattle.http_edge.specs.declared.framing.Framing.TheVariants.{Sized, Chunked}
use Rattle.http_edge.specs.Message.{Message}
use Rattle.http_edge.specs.Chunks.{Chunk, AreChunks}
use Rattle.http_edge.specs.Reading.{HasBody, framing_in, message_of, Reads, BeginsWith, IsTooLong}
use Rattle.http_edge.proofs.ListLemmas.{behind_same}

chunks_unique : (before buf : List ℕ) (cs ds : List Chunk) (o p : Option (List ℕ))
    → AreChunks before buf cs o → AreChunks before buf ds p → o ≡ p
chunks_unique before buf [] [] (Some x) (Some y) h g = ap (λ (s : List ℕ). Some s) (h.5 ∙ sym g.5)
chunks_unique before buf [] [] None None h g = refl
chunks_unique before buf [] [] (Some x) None h g = let same =
    chunk_line_unique buf h.0 g.0 h.1 g.1 h.2.reads g.2.reads in
    absurd (omega (arith, ap chunk_size same.0, h.3, g.3))
chunks_unique before buf [] [] None (Some y) h g = let same =
    chunk_line_unique buf h.0 g.0 h.1 g.1 h.2.reads g.2.reads in
    absurd (omega (arith, ap chunk_size same.0, h.3, g.3))
chunks_unique before buf [] (d ∷ ds) (Some x) p h g =
    let same = chunk_line_unique buf h.0 d.0 h.1 (d.1 ++ 13 ∷ 10 ∷ g.0) h.2.reads g.1.line.reads in
    absurd (omega (arith, ap chunk_size same.0, h.3, g.1.sized, g.1.some))
chunks_unique before buf [] (d ∷ ds) None p h g =
    let same = chunk_line_unique buf h.0 d.0 h.1 (d.1 ++ 13 ∷ 10 ∷ g.0) h.2.reads g.1.line.reads in
    absurd (omega (arith, ap chunk_size same.0, h.3, g.1.sized, g.1.fits))
chunks_unique before buf (c ∷ cs) [] o (Some y) h g =
    let same = chunk_line_unique buf c.0 g.0 (c.1 ++ 13 ∷ 10 ∷ h.0) g.1 h.1.line.reads g.2.reads in
    absurd (omega (arith, ap chunk_size same.0, g.3, h.1.sized, h.1.some))
chunks_unique before buf (c ∷ cs) [] o None h g =
    let same = chunk_line_unique buf c.0 g.0 (c.1 ++ 13 ∷ 10 ∷ h.0) g.1 h.1.line.reads g.2.reads in
    absurd (omega (arith, ap chunk_size same.0, g.3, h.1.sized, h.1.fits))
chunks_unique before buf (c ∷ cs) (d ∷ ds) o p h g =
    let same = chunk_line_unique buf c.0 d.0 (c.1 ++ 13 ∷ 10 ∷ h.0) (d.1 ++ 13 ∷ 10 ∷ g.0)
    h.1.line.reads g.1.line.reads in
    let len : length c.1 ≡ length d.1 = sym h.1.sized ∙ ap chunk_size same.0 ∙ g.1.sized in
    let parts = behind_same c.1 d.1 (13 ∷ 10 ∷ h.0) (13 ∷ 10 ∷ g.0) len same.1 in
    let tails : h.0 ≡ g.0 = cc (parts.1) in
    let P : List ℕ → Type 0 = λ s. AreChunks (before ++ s) g.0 ds p in
    let Q : List ℕ → Type 0 = λ s. AreChunks (before ++ c.1) s ds p in
    chunks_unique (before ++ c.1) h.0 cs ds o p h.2
    (subst Q (sym tails) (subst P (sym parts.0) g.2))

body_unique : (framing : Option Framing) (after : List ℕ) (o p : Option (List ℕ))
    → HasBody framing after o → HasBody framing after p → o ≡ p
body_unique None after o p h g = absurd h
body_unique (Some Chunked) after o p h g = chunks_unique [] after h.0 g.0 o p h.1 g.1
body_unique (Some (Sized n)) after (Some x) (Some y) h g = let same =
    behind_same x y h.2.0 g.2.0 (h.1 ∙ sym g.1) (sym h.2.1 ∙ g.2.1) in
    ap (λ (s : List ℕ). Some s) same.0
body_unique (Some (Sized n)) after (Some x) None h g = absurd (omega (arith, h.0, g))
body_unique (Some (Sized n)) after None (Some y) h g = absurd (omega (arith, g.0, h))
body_unique (Some (Sized n)) after None None h g = refl

pub reads_unique : (buf : List ℕ) (h k : RequestHead) (o p : Option (List ℕ)) → Reads buf h o
    → Reads buf k p → (h ≡ k) × (o ≡ p)
reads_unique buf h k o p x y =
    let same = request_unique buf h k x.0 y.0 x.1.at.reads y.1.at.reads in
    let P : RequestHead → Type 0 = λ z. HasBody (framing_in z) y.0 p in
    let Q : List ℕ → Type 0 = λ s. HasBody (framing_in h) s p in (
      same.0,
      body_unique (framing_in h) x.0 o p x.1.has
          (subst Q (sym same.1) (subst P (sym same.0) y.1.has)),
    )

pub one_message : (buf : List ℕ) (m n : Message) → BeginsWith buf m → BeginsWith buf n → m ≡ n
one_message buf m n x y =
    let same = reads_unique buf x.0 y.0 (Some x.1) (Some y.1) x.2 y.2 in
    let body : x.1 ≡ y.1 = cc (same.1) in
    x.3 ∙ ap (λ (k : RequestHead). message_of k x.1) same.0 ∙ ap (message_of y.0) body ∙ sym y.3

pub not_both : (buf : List ℕ) (m : Message) → BeginsWith buf m → ¬ (IsTooLong buf)
not_both buf m x y = let same = reads_unique buf x.0 y.0 (Some x.1) None x.2 y.1 in
    let e : Some x.1 ≡ None = same.1 in cc
