use Rattle.std.proofs.Common.{◌≡◌, ◌≤◌, ◌++◌, List, ℕ, [], length, take, drop, arith, sym, ap}
use Rattle.std.proofs.Common.{subst, ◌∙◌}
use Rattle.std.proofs.lemmas.List.{take_all, take-append-drop, length-append, length-take-le}
use Rattle.httparse.specs.Grammar.{HasNoSection}
use Rattle.httparse.specs.Spans.{SectionOverflows, IsSectionAt, IsSectionWithin}
use Rattle.http_edge.specs.Body.{IsOpen}
use Rattle.http_edge.specs.inner.Body.{Refuses, Reaches}
use Rattle.http_edge.specs.declared.fault.HttpFault.TheVariants.{BadChunk}
use Rattle.http_edge.specs.declared.phase.Phase.TheVariants.{Trailer, Whole}
use Rattle.http_edge.proofs.BodyLemmas.{at, trailer_whole, trailer_overflows, trailer_long}
use Rattle.http_edge.proofs.BodyLemmas.{trailer_more}
use Rattle.http_edge.proofs.body.Body.take_trailer.Goals as goal

pub returns-then-len-ge-MAX_TRAILER : goal.returns-then-len-ge-MAX_TRAILER
returns-then-len-ge-MAX_TRAILER c =
    let b = c.args.self.now in
    let n = c.min-n.result in
    let piece = c.args.piece.now in
    let is = c.in_ok-extend_from_slice.ensures.items in
    let none = rw (c.in-Ok-Partial.field-0-is, c.deref.ensures.value) at
    c.in-Ok-Partial.ensures.partial in
    let P : List ℕ → Type 0 = λ s. Refuses BadChunk (at Trailer b.content.items b.part.items) s in
    rw c.requires.phase (subst P (take-append-drop n piece)
    (trailer_long b.content.items b.part.items (take n piece) (drop n piece)
    (subst HasNoSection is none) (omega (
      arith,
      ap length is,
      c.extend_from_slice.new.self.ok.0,
      c.len-in-Ok-Partial.ensures,
    ))))

pub returns-in-Err : goal.returns-in-Err
returns-in-Err c =
    let b = c.args.self.now in
    let n = c.min-n.result in
    let piece = c.args.piece.now in
    let many = rw c.deref.ensures.value at c.in-Err.ensures.no_room in
    let P : List ℕ → Type 0 = λ s. Refuses BadChunk (at Trailer b.content.items b.part.items) s in
    rw c.requires.phase (subst P (take-append-drop n piece)
    (trailer_overflows b.content.items b.part.items (take n piece) (drop n piece)
    (subst (SectionOverflows 64) c.in_ok-extend_from_slice.ensures.items many)))

pub returns-in-Ok-Complete : goal.returns-in-Ok-Complete
returns-in-Ok-Complete c =
    let b = c.args.self.now in
    let n = c.min-n.result in
    let piece = c.args.piece.now in
    let u = take n piece in
    let is = c.in_ok-extend_from_slice.ensures.items in
    let found = rw (c.in-Ok-Complete.field-0-is, c.deref.ensures.value) at
    c.in-Ok-Complete.ensures.complete in
    let within = rw (c.in-Ok-Complete.field-0-is, c.deref.ensures.value) at
    c.in-Ok-Complete.ensures.within in
    let r = c.in-Ok-Complete.field-0-0 in
    let spans = c.parse_headers.new.headers in
    let opened : IsOpen (at Trailer b.content.items b.part.items) =
    rw c.requires.phase at c.requires.is_open in
    let P : List ℕ → Type 0 = λ s. IsSectionAt s 0 spans r.0 r.1 found.0 found.1 in
    let Q : List ℕ → Type 0 = λ s. IsSectionWithin s spans r.0 r.1 in
    let short : length (b.part.items ++ u) ≤ 16384 =
    omega (
      arith,
      length-append b.part.items u,
      length-take-le n piece (omega arith),
      b.part.ok.0,
    ) in
    let reaches = trailer_whole b.content.items b.part.items u (drop n piece) spans r.0 r.1 found.0
    found.1 opened short (omega (arith, c.parse_headers.auto.headers)) (subst P is found.2)
    (subst Q is within) in
    let whole : u ++ drop n piece ≡ take (length piece) piece =
    take-append-drop n piece ∙ sym (take_all (length piece) piece (omega arith)) in
    let R : List ℕ → Type 0 =
    λ s. Reaches (at Trailer b.content.items b.part.items) (at Whole b.content.items []) s in
    (omega arith, omega arith, rw (c.requires.phase, c.clear.ensures.items) (subst R whole reaches))

pub returns-else-len-ge-MAX_TRAILER : goal.returns-else-len-ge-MAX_TRAILER
returns-else-len-ge-MAX_TRAILER c =
    let b = c.args.self.now in
    let none = rw (c.in-Ok-Partial.field-0-is, c.deref.ensures.value) at
    c.in-Ok-Partial.ensures.partial in
    let may = rw (c.in-Ok-Partial.field-0-is, c.deref.ensures.value) at
    c.in-Ok-Partial.ensures.unfinished in
    let opened : IsOpen (at Trailer b.content.items b.part.items) =
    rw c.requires.phase at c.requires.is_open in (
      omega (arith, b.part.ok.0),
      omega arith,
      rw c.requires.phase
          (trailer_more b.content.items b.part.items c.extend_from_slice.new.self.items
          (take c.min-n.result c.args.piece.now) opened c.in_ok-extend_from_slice.ensures.items
          none may (omega
          (arith, c.extend_from_slice.new.self.ok.0, c.len-in-Ok-Partial.ensures))),
    )
