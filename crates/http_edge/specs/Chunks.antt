-- A chunked body: chunks, a last chunk, and trailers.
use Rattle.std.specs.Prelude.{◌≡◌, ℕ, ◌-◌, ◌<◌, ◌≤◌, List, [], ◌∷◌, ◌++◌, length, Option, Some}
use Rattle.std.specs.Prelude.{None}
use Rattle.httparse.specs.Grammar.{Field, LineEnd, print_section, ReadsSection, ChunkLine}
use Rattle.httparse.specs.Grammar.{print_chunk_line, ReadsChunkLine, chunk_size}
use Rattle.http_edge.specs.declared.limits.TheConstants.{MAX_FIELDS, MAX_BODY, MAX_LINE}
use Rattle.http_edge.specs.declared.limits.TheConstants.{MAX_TRAILER}

-- a size line, and the bytes that it counts
abbrev pub Chunk : Type 0
Chunk = ChunkLine × List ℕ

-- buf is a size line within the limit and then rest
pub record IsSizeLine (buf : List ℕ) (l : ChunkLine) (rest : List ℕ) : Type 0 where
  pub reads : ReadsChunkLine buf l rest
  pub short : length (print_chunk_line l) ≤ MAX_LINE

-- the room that is left behind a body so far
abbrev pub room : List ℕ → ℕ
room before = MAX_BODY - length before

-- buf is a chunk that fits behind what came before, and then after
pub record IsChunkAt (before buf : List ℕ) (c : Chunk) (after : List ℕ) : Type 0 where
  pub line : IsSizeLine buf c.0 (c.1 ++ 13 ∷ 10 ∷ after)
  pub sized : chunk_size c.0 ≡ length c.1
  pub some : 0 < length c.1
  pub fits : length c.1 ≤ room before

-- buf is a trailer section within the limits and then rest
pub record IsTrailerAt (buf : List ℕ) (fields : List Field) (last : LineEnd)
    (rest : List ℕ) : Type 0 where
  pub reads : ReadsSection buf fields last rest
  pub few : length fields ≤ MAX_FIELDS
  pub short : length (print_section fields last) ≤ MAX_TRAILER

abbrev pub HasTrailer : List ℕ → Type 0
HasTrailer buf =
    (fields : List Field) × (last : LineEnd) × (rest : List ℕ) × IsTrailerAt buf fields last rest

-- the last chunk and the trailers, which leave the body as it is; or a size over the room, which
-- leaves none
abbrev pub IsStop : List ℕ → List ℕ → Option (List ℕ) → Type 0
IsStop before buf (Some body) =
    (l : ChunkLine) × (behind : List ℕ) × IsSizeLine buf l behind × (chunk_size l ≡ 0)
    × HasTrailer behind × (body ≡ before)
IsStop before buf None =
    (l : ChunkLine) × (behind : List ℕ) × IsSizeLine buf l behind × (room before < chunk_size l)

-- these chunks, and then such a stop
abbrev pub AreChunks : List ℕ → List ℕ → List Chunk → Option (List ℕ) → Type 0
AreChunks before buf [] body = IsStop before buf body
AreChunks before buf (c ∷ cs) body =
    (after : List ℕ) × IsChunkAt before buf c after × AreChunks (before ++ c.1) after cs body

-- the body of chunks behind what came before, or None where a size is the first thing that is wrong
abbrev pub HasChunks : List ℕ → List ℕ → Option (List ℕ) → Type 0
HasChunks before buf body = (cs : List Chunk) × AreChunks before buf cs body
