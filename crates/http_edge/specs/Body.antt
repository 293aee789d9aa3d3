-- What a body that is being read can still become.
use Rattle.std.specs.Prelude.{◌≡◌, ℕ, ◌+◌, ◌-◌, ◌*◌, ◌<◌, ◌≤◌, Bool, true, false, List, [], ◌∷◌}
use Rattle.std.specs.Prelude.{◌++◌, length, Option, Some, None}
use Rattle.httparse.specs.Grammar.{HasNoChunkLine, MayBecomeChunkLine, HasNoSection}
use Rattle.httparse.specs.Grammar.{MayBecomeSection}
use Rattle.http_edge.specs.declared.phase.Phase.{Phase}
use Rattle.http_edge.specs.declared.phase.Phase.TheVariants.{Counted, Line, Content, Return}
use Rattle.http_edge.specs.declared.phase.Phase.TheVariants.{LineFeed, Trailer, Whole}
use Rattle.http_edge.specs.declared.limits.TheConstants.{MAX_BODY, MAX_LINE, MAX_TRAILER}
use Rattle.http_edge.specs.Chunks.{room, HasTrailer, HasChunks}

-- how far a body was read: the phase, the content so far, and the part so far of a size line or of
-- the trailer section
pub record BodyState : Type 0 where
  pub phase : Phase
  pub content : List ℕ
  pub part : List ℕ

-- with more behind it, the content so far becomes that body, or None where a size is the first
-- thing that is wrong
abbrev pub Grows : Phase → List ℕ → List ℕ → List ℕ → Option (List ℕ) → Type 0
Grows (Counted n) content part more (Some body) =
    (y : List ℕ) × (rest : List ℕ) × (length y ≡ n) × (more ≡ y ++ rest) × (body ≡ content ++ y)
Grows Line content part more body = HasChunks content (part ++ more) body
Grows (Content n) content part more body =
    (y : List ℕ) × (after : List ℕ) × (length y ≡ n) × (more ≡ y ++ 13 ∷ 10 ∷ after)
    × HasChunks (content ++ y) after body
Grows Return content part more body =
    (after : List ℕ) × (more ≡ 13 ∷ 10 ∷ after) × HasChunks content after body
Grows LineFeed content part more body =
    (after : List ℕ) × (more ≡ 10 ∷ after) × HasChunks content after body
Grows Trailer content part more (Some body) = HasTrailer (part ++ more) × (body ≡ content)
Grows Whole content part more (Some body) = body ≡ content
Grows phase content part more None = ⊥

abbrev pub Becomes : BodyState → List ℕ → Option (List ℕ) → Type 0
Becomes s more body = Grows s.phase s.content s.part more body

-- the same state with no part
abbrev pub bare : BodyState → BodyState
bare s = record { phase = s.phase; content = s.content; part = [] }

-- what is kept in each phase, where a part can still become a line or a section
abbrev pub Fits : Phase → List ℕ → List ℕ → Type 0
Fits (Counted n) content part = (0 < n) × (length content + n ≤ MAX_BODY) × (part ≡ [])
Fits Line content part =
    (length part < MAX_LINE) × (length content ≤ MAX_BODY) × HasNoChunkLine part
    × MayBecomeChunkLine part
Fits (Content n) content part = (0 < n) × (length content + n ≤ MAX_BODY) × (part ≡ [])
Fits Trailer content part =
    (length part < MAX_TRAILER) × (length content ≤ MAX_BODY) × HasNoSection part
    × MayBecomeSection part
Fits phase content part = (length content ≤ MAX_BODY) × (part ≡ [])

abbrev pub IsOpen : BodyState → Type 0
IsOpen s = Fits s.phase s.content s.part

abbrev pub is_whole : Phase → Bool
is_whole Whole = true
is_whole phase = false

-- the most bytes of chunks that have so much room, up to the end: a chunk has a byte, a line and
-- two line ends
abbrev pub most_of_chunks : ℕ → ℕ
most_of_chunks n = MAX_TRAILER + (MAX_LINE + 3) * n + MAX_LINE

-- the most bytes that may still come
abbrev pub most_at : Phase → List ℕ → List ℕ → ℕ
most_at (Counted n) content part = n
most_at Line content part = most_of_chunks (room content) - length part
most_at (Content n) content part = n + 2 + most_of_chunks (room content - n)
most_at Return content part = 2 + most_of_chunks (room content)
most_at LineFeed content part = 1 + most_of_chunks (room content)
most_at Trailer content part = MAX_TRAILER - length part
most_at Whole content part = 0

abbrev pub most_left : BodyState → ℕ
most_left s = most_at s.phase s.content s.part
