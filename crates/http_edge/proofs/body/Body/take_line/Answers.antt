use Rattle.std.proofs.Common.{◌++◌, ◌-◌, List, ℕ, take, drop, Option, arith, sym, subst, ◌∙◌}
use Rattle.std.proofs.lemmas.List.{take-append-drop}
use Rattle.http_edge.specs.Body.{IsOpen}
use Rattle.http_edge.specs.inner.Body.{Refuses}
use Rattle.http_edge.specs.Chunks.{HasChunks}
use Rattle.http_edge.specs.declared.fault.HttpFault.TheVariants.{BadChunk, BodyTooLong}
use Rattle.http_edge.specs.declared.phase.Phase.TheVariants.{Line}
use Rattle.http_edge.proofs.BodyLemmas.{at, at_line, line_zero, line_fits, line_over, line_refused}
use Rattle.http_edge.proofs.BodyLemmas.{line_more}
use Rattle.http_edge.proofs.ChunkLemmas.{never_line, never_long_line}
use Rattle.http_edge.proofs.body.Body.take_line.Goals as goal

pub overflow_sub-taken : goal.overflow_sub-taken
overflow_sub-taken c =
    let b = c.args.self.now in
    let opened : IsOpen (at Line b.content.items b.part.items) =
    rw c.requires.phase at c.requires.is_open in
    let found = rw (c.in-Ok-Complete.field-0-is, c.deref.ensures.value) at
    c.in-Ok-Complete.ensures.complete in
    let t = at_line b.content.items b.part.items c.args.piece.now c.extend_from_slice.new.self.items
    c.len-had.result c.line_len-n.result c.in-Ok-Complete.len c.in-Ok-Complete.size found.0
    opened (omega (arith, b.part.ok.0, c.len-had.ensures)) c.line_len-n.ensures.within
    c.line_len-n.ensures.fits c.in_ok-extend_from_slice.ensures.items found.1 in
    omega (arith, t.0.some)

pub returns-then-size-eq0 : goal.returns-then-size-eq0
returns-then-size-eq0 c =
    let b = c.args.self.now in
    let opened : IsOpen (at Line b.content.items b.part.items) =
    rw c.requires.phase at c.requires.is_open in
    let found = rw (c.in-Ok-Complete.field-0-is, c.deref.ensures.value) at
    c.in-Ok-Complete.ensures.complete in
    let t = at_line b.content.items b.part.items c.args.piece.now c.extend_from_slice.new.self.items
    c.len-had.result c.line_len-n.result c.in-Ok-Complete.len c.in-Ok-Complete.size found.0
    opened (omega (arith, b.part.ok.0, c.len-had.ensures)) c.line_len-n.ensures.within
    c.line_len-n.ensures.fits c.in_ok-extend_from_slice.ensures.items found.1 in (
      omega (arith, t.0.some),
      omega (arith, t.0.within, c.line_len-n.ensures.within),
      rw (c.requires.phase, c.clear.ensures.items)
          (line_zero b.content.items b.part.items
          (take (c.in-Ok-Complete.len - c.len-had.result) c.args.piece.now) found.0 opened
          t.0.front t.1 (sym found.1.size_is ∙ c.if-size-eq0.true)),
    )

pub returns-else-size-len : goal.returns-else-size-len
returns-else-size-len c =
    let b = c.args.self.now in
    let opened : IsOpen (at Line b.content.items b.part.items) =
    rw c.requires.phase at c.requires.is_open in
    let found = rw (c.in-Ok-Complete.field-0-is, c.deref.ensures.value) at
    c.in-Ok-Complete.ensures.complete in
    let t = at_line b.content.items b.part.items c.args.piece.now c.extend_from_slice.new.self.items
    c.len-had.result c.line_len-n.result c.in-Ok-Complete.len c.in-Ok-Complete.size found.0
    opened (omega (arith, b.part.ok.0, c.len-had.ensures)) c.line_len-n.ensures.within
    c.line_len-n.ensures.fits c.in_ok-extend_from_slice.ensures.items found.1 in (
      omega (arith, t.0.some),
      omega (arith, t.0.within, c.line_len-n.ensures.within),
      rw (c.requires.phase, c.clear.ensures.items)
          (line_fits b.content.items b.part.items
          (take (c.in-Ok-Complete.len - c.len-had.result) c.args.piece.now) found.0
          c.in-Ok-Complete.size opened t.0.front t.1 found.1.size_is (omega arith)
          (omega (arith, b.content.ok.0, c.len.ensures))),
    )

pub returns-then-size-len : goal.returns-then-size-len
returns-then-size-len c =
    let b = c.args.self.now in
    let piece = c.args.piece.now in
    let opened : IsOpen (at Line b.content.items b.part.items) =
    rw c.requires.phase at c.requires.is_open in
    let found = rw (c.in-Ok-Complete.field-0-is, c.deref.ensures.value) at
    c.in-Ok-Complete.ensures.complete in
    let t = at_line b.content.items b.part.items piece c.extend_from_slice.new.self.items
    c.len-had.result c.line_len-n.result c.in-Ok-Complete.len c.in-Ok-Complete.size found.0
    opened (omega (arith, b.part.ok.0, c.len-had.ensures)) c.line_len-n.ensures.within
    c.line_len-n.ensures.fits c.in_ok-extend_from_slice.ensures.items found.1 in
    let k = c.in-Ok-Complete.len - c.len-had.result in
    let refused = line_over b.content.items b.part.items (take k piece) (drop k piece) found.0
    t.0.front t.1 (omega (arith, found.1.size_is, b.content.ok.0, c.len.ensures)) in
    let P : List ℕ → Type 0 = λ s. Refuses BodyTooLong (at Line b.content.items b.part.items) s in
    rw c.requires.phase (subst P (take-append-drop k piece) refused)

pub returns-then-len-ge-MAX_LINE : goal.returns-then-len-ge-MAX_LINE
returns-then-len-ge-MAX_LINE c =
    let b = c.args.self.now in
    let n = c.line_len-n.result in
    let piece = c.args.piece.now in
    let none = rw (c.in-Ok-Partial.field-0-is, c.deref.ensures.value) at
    c.in-Ok-Partial.ensures.partial in
    let P : List ℕ → Type 0 = λ s. Refuses BadChunk (at Line b.content.items b.part.items) s in
    let Q : List ℕ → Type 0 = λ s. (more : List ℕ) (body : Option (List ℕ))
    → ¬ (HasChunks b.content.items (s ++ more) body) in
    rw c.requires.phase (subst P (take-append-drop n piece)
    (line_refused b.content.items b.part.items (take n piece) (drop n piece)
    (subst Q c.in_ok-extend_from_slice.ensures.items
    (never_long_line b.content.items c.extend_from_slice.new.self.items none
    (omega (
      arith,
      c.extend_from_slice.new.self.ok.0,
      c.len-in-Ok-Partial.ensures,
    ))))))

pub returns-in-Err : goal.returns-in-Err
returns-in-Err c =
    let b = c.args.self.now in
    let n = c.line_len-n.result in
    let piece = c.args.piece.now in
    let never = rw c.deref.ensures.value at c.in-Err.ensures.invalid in
    let P : List ℕ → Type 0 = λ s. Refuses BadChunk (at Line b.content.items b.part.items) s in
    let Q : List ℕ → Type 0 = λ s. (more : List ℕ) (body : Option (List ℕ))
    → ¬ (HasChunks b.content.items (s ++ more) body) in
    rw c.requires.phase (subst P (take-append-drop n piece)
    (line_refused b.content.items b.part.items (take n piece) (drop n piece)
    (subst Q c.in_ok-extend_from_slice.ensures.items
    (never_line b.content.items c.extend_from_slice.new.self.items never))))

pub returns-else-len-ge-MAX_LINE : goal.returns-else-len-ge-MAX_LINE
returns-else-len-ge-MAX_LINE c =
    let b = c.args.self.now in
    let none = rw (c.in-Ok-Partial.field-0-is, c.deref.ensures.value) at
    c.in-Ok-Partial.ensures.partial in
    let may = rw (c.in-Ok-Partial.field-0-is, c.deref.ensures.value) at
    c.in-Ok-Partial.ensures.unfinished in
    let opened : IsOpen (at Line b.content.items b.part.items) =
    rw c.requires.phase at c.requires.is_open in (
      c.line_len-n.ensures.some,
      c.line_len-n.ensures.within,
      rw c.requires.phase
          (line_more b.content.items b.part.items c.extend_from_slice.new.self.items
          (take c.line_len-n.result c.args.piece.now) opened
          c.in_ok-extend_from_slice.ensures.items none may
          (omega
          (arith, c.extend_from_slice.new.self.ok.0, c.len-in-Ok-Partial.ensures))),
    )
