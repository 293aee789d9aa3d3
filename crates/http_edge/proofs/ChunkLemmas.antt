-- The size line that chunks begin with, and what it makes of them.
use Rattle.std.proofs.Common.{◌≡◌, ℕ, ◌<◌, ◌≤◌, List, [], ◌∷◌, ◌++◌, length, drop, Option, Some}
use Rattle.std.proofs.Common.{None, refl, sym, ap, subst, ◌∙◌, arith}
use Rattle.httparse.specs.Grammar.{ChunkLine, print_chunk_line, IsChunkLine, HasNoChunkLine}
use Rattle.httparse.specs.Grammar.{NeverHasChunkLine, chunk_size}
use Rattle.httparse.proofs.ChunkLemmas.{chunk_line_unique}
use Rattle.http_edge.specs.Chunks.{Chunk, room, IsSizeLine, IsChunkAt, HasTrailer, AreChunks}
use Rattle.http_edge.specs.Chunks.{HasChunks}
use Rattle.http_edge.proofs.ListLemmas.{front_of}

-- chunks begin with a size line
pub first_line : (before buf : List ℕ) (cs : List Chunk) (body : Option (List ℕ))
    → AreChunks before buf cs body → (l : ChunkLine) × (behind : List ℕ) × IsSizeLine buf l behind
first_line before buf [] (Some body) is = (is.0, is.1, is.2)
first_line before buf [] None is = (is.0, is.1, is.2)
first_line before buf (c ∷ cs) body is = (c.0, c.1 ++ 13 ∷ 10 ∷ is.0, is.1.line)

pub no_chunks : (before buf : List ℕ) → HasNoChunkLine buf → (body : Option (List ℕ))
    → ¬ (HasChunks before buf body)
no_chunks before buf none body is = let f = first_line before buf is.0 body is.1 in
    none f.0 f.1 f.2.reads

pub never_line : (before buf : List ℕ) → NeverHasChunkLine buf
    → (more : List ℕ) (body : Option (List ℕ)) → ¬ (HasChunks before (buf ++ more) body)
never_line before buf never more body is = let f = first_line before (buf ++ more) is.0 body is.1 in
    never more f.0 f.1 f.2.reads

pub never_long_line : (before buf : List ℕ) → HasNoChunkLine buf → 1024 ≤ length buf
    → (more : List ℕ) (body : Option (List ℕ)) → ¬ (HasChunks before (buf ++ more) body)
never_long_line before buf none long more body is =
    let f = first_line before (buf ++ more) is.0 body is.1 in
    none f.0 (drop (length (print_chunk_line f.0)) buf) (
      f.2.reads.0,
      front_of buf more (print_chunk_line f.0) f.1 f.2.reads.1
          (omega (arith, f.2.short, long)),
    )

-- ---- behind a size line that was read

pub record IsLine (l : ChunkLine) : Type 0 where
  pub valid : IsChunkLine l
  pub short : length (print_chunk_line l) ≤ 1024

-- the line of the chunks is the one that was read
same_line : (l : ChunkLine) (more : List ℕ) (k : ChunkLine) (behind : List ℕ) → IsLine l
    → IsSizeLine (print_chunk_line l ++ more) k behind → (l ≡ k) × (more ≡ behind)
same_line l more k behind is line =
    chunk_line_unique (print_chunk_line l ++ more) l k more behind (is.valid, refl) line.reads

pub zero_forward : (before : List ℕ) (l : ChunkLine) (more : List ℕ) → IsLine l → chunk_size l ≡ 0
    → (cs : List Chunk) (body : List ℕ)
    → AreChunks before (print_chunk_line l ++ more) cs (Some body)
    → HasTrailer more × (body ≡ before)
zero_forward before l more is zero [] body h = let same = same_line l more h.0 h.1 is h.2 in
    (subst HasTrailer (sym same.1) h.4, h.5)
zero_forward before l more is zero (c ∷ cs) body h =
    let same = same_line l more c.0 (c.1 ++ 13 ∷ 10 ∷ h.0) is h.1.line in
    absurd (omega (arith, ap chunk_size same.0, h.1.sized, h.1.some, zero))

pub zero_not_over : (before : List ℕ) (l : ChunkLine) (more : List ℕ) → IsLine l → chunk_size l ≡ 0
    → (cs : List Chunk) → AreChunks before (print_chunk_line l ++ more) cs None → ⊥
zero_not_over before l more is zero [] h = let same = same_line l more h.0 h.1 is h.2 in
    omega (arith, ap chunk_size same.0, h.3, zero)
zero_not_over before l more is zero (c ∷ cs) h =
    let same = same_line l more c.0 (c.1 ++ 13 ∷ 10 ∷ h.0) is h.1.line in
    omega (arith, ap chunk_size same.0, h.1.sized, h.1.some, zero)

-- the bytes of a chunk, its line end, and the chunks behind it
abbrev pub HasContent : ℕ → List ℕ → List ℕ → Option (List ℕ) → Type 0
HasContent n before more body = (y : List ℕ) × (after : List ℕ) × (length y ≡ n)
    × (more ≡ y ++ 13 ∷ 10 ∷ after) × HasChunks (before ++ y) after body

pub fits_forward : (before : List ℕ) (l : ChunkLine) (more : List ℕ) → IsLine l → 0 < chunk_size l
    → chunk_size l ≤ room before → (cs : List Chunk) (body : Option (List ℕ))
    → AreChunks before (print_chunk_line l ++ more) cs body
    → HasContent (chunk_size l) before more body
fits_forward before l more is some fits [] (Some body) h = let same =
    same_line l more h.0 h.1 is h.2 in absurd (omega (arith, ap chunk_size same.0, h.3, some))
fits_forward before l more is some fits [] None h = let same = same_line l more h.0 h.1 is h.2 in
    absurd (omega (arith, ap chunk_size same.0, h.3, fits))
fits_forward before l more is some fits (c ∷ cs) body h =
    let same = same_line l more c.0 (c.1 ++ 13 ∷ 10 ∷ h.0) is h.1.line in
    (c.1, h.0, sym h.1.sized ∙ sym (ap chunk_size same.0), same.1, (cs, h.2))

pub fits_backward : (before : List ℕ) (l : ChunkLine) (more : List ℕ) → IsLine l → 0 < chunk_size l
    → chunk_size l ≤ room before → (body : Option (List ℕ))
    → HasContent (chunk_size l) before more body
    → HasChunks before (print_chunk_line l ++ more) body
fits_backward before l more is some fits body h =
    let one : IsChunkAt before (print_chunk_line l ++ more) (l, h.0) h.1 = record {
      line = record { reads = (is.valid, ap (λ s. print_chunk_line l ++ s) h.3); short = is.short };
      sized = sym h.2;
      some = omega (arith, h.2, some);
      fits = omega (arith, h.2, fits);
    } in
    ((l, h.0) ∷ h.4.0, (h.1, one, h.4.1))

pub zero_backward : (before : List ℕ) (l : ChunkLine) (more : List ℕ) → IsLine l → chunk_size l ≡ 0
    → (body : List ℕ) → HasTrailer more → body ≡ before
    → HasChunks before (print_chunk_line l ++ more) (Some body)
zero_backward before l more is zero body trailer same =
    ([], (l, more, record { reads = (is.valid, refl); short = is.short }, zero, trailer, same))

pub over : (before : List ℕ) (l : ChunkLine) (more : List ℕ) → IsLine l → room before < chunk_size l
    → HasChunks before (print_chunk_line l ++ more) None
over before l more is large =
    ([], (l, more, record { reads = (is.valid, refl); short = is.short }, large))
