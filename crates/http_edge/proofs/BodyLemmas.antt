-- One step of a body that is being read.
use Rattle.std.proofs.Common.{◌≡◌, ℕ, ◌-◌, ◌<◌, ◌≤◌, true, List, [], ◌∷◌, ◌++◌, length, drop, take}
use Rattle.std.proofs.Common.{Option, Some, None, refl, sym, ap, subst, ◌∙◌, arith, append_assoc}
use Rattle.std.proofs.lemmas.List.{length-append, length-take, length-map, append-nil}
use Rattle.std.proofs.lemmas.List.Elements.{All-cons, All-nil}
use Rattle.std.specs.Char.{is_ascii_hexdigit}
use Rattle.std.specs.List.{flat_map}
use Rattle.httparse.proofs.GrammarLemmas.{ReadsSection-append}
use Rattle.httparse.specs.declared.spans.HeaderSpan.{HeaderSpan}
use Rattle.httparse.specs.Grammar.{ChunkLine, print_chunk_line, chunk_size, HasNoChunkLine}
use Rattle.httparse.specs.Grammar.{MayBecomeChunkLine, Field, LineEnd, crlf, lf, print_field}
use Rattle.httparse.specs.Grammar.{print_section, HasNoSection, MayBecomeSection}
use Rattle.httparse.specs.Spans.{IsChunkLineAt, IsSectionAt, IsSectionWithin, SectionOverflows}
use Rattle.httparse.specs.Spans.{header_bytes, name_and_value}
use Rattle.http_edge.specs.declared.fault.HttpFault.{HttpFault}
use Rattle.http_edge.specs.declared.fault.HttpFault.TheVariants.{BodyTooLong, BadChunk}
use Rattle.http_edge.specs.declared.phase.Phase.{Phase}
use Rattle.http_edge.specs.declared.phase.Phase.TheVariants.{Counted, Line, Content, Return}
use Rattle.http_edge.specs.declared.phase.Phase.TheVariants.{LineFeed, Trailer, Whole}
use Rattle.http_edge.specs.Chunks.{room, HasTrailer, AreChunks, HasChunks}
use Rattle.http_edge.specs.Body.{BodyState, Becomes, bare, IsOpen}
use Rattle.http_edge.specs.inner.Body.{Splits, Reaches, Refuses}
use Rattle.http_edge.proofs.ListLemmas.{front_of, rest_of, behind_same, text_taken, EndsIn}
use Rattle.http_edge.proofs.ChunkLemmas.{IsLine, HasContent, zero_forward, zero_not_over}
use Rattle.http_edge.proofs.ChunkLemmas.{zero_backward, fits_forward, fits_backward, over}

abbrev pub at : Phase → List ℕ → List ℕ → BodyState
at phase content part = record { phase = phase; content = content; part = part }

-- ---- where no part is kept

no_part : (p q u : List ℕ) → p ≡ [] → q ≡ [] → p ++ u ≡ u ++ q
no_part p q u none none_then =
    ap (λ s. s ++ u) none ∙ sym (append-nil u) ∙ ap (λ s. u ++ s) (sym none_then)

-- ---- a body of a known length

counted_forward : (n : ℕ) (b c p u more : List ℕ) (body : Option (List ℕ)) → c ≡ b ++ u
    → length u < n → Becomes (at (Counted n) b p) (u ++ more) body
    → Becomes (at (Counted (n - length u)) c p) more body
counted_forward n b c p u more None is short h = h
counted_forward n b c p u more (Some body) is short h =
    let le : length u ≤ length h.0 = omega (arith, h.2) in
    let y = drop (length u) h.0 in
    let front : h.0 ≡ u ++ y = front_of h.0 h.1 u more (sym h.3) le in (
      y,
      h.1,
      omega (arith, ap length front, length-append u y, h.2),
      rest_of u more h.0 h.1 h.3 le,
      h.4 ∙ ap (λ s. b ++ s) front ∙ sym (append_assoc b u y) ∙ ap (λ s. s ++ y) (sym is),
    )

counted_backward : (n : ℕ) (b c p u more : List ℕ) (body : Option (List ℕ)) → c ≡ b ++ u
    → length u < n → Becomes (at (Counted (n - length u)) c p) more body
    → Becomes (at (Counted n) b p) (u ++ more) body
counted_backward n b c p u more None is short h = h
counted_backward n b c p u more (Some body) is short h = (
  u ++ h.0,
  h.1,
  omega (arith, length-append u h.0, h.2, short),
  ap (λ s. u ++ s) h.3
      ∙ sym (append_assoc u h.0 h.1),
  h.4 ∙ ap (λ s. s ++ h.0) is ∙ append_assoc b u h.0,
)

pub counted_more : (n k : ℕ) (b c p u : List ℕ) → IsOpen (at (Counted n) b p) → c ≡ b ++ u
    → length u ≡ k → k < n → Reaches (at (Counted n) b p) (at (Counted (n - k)) c p) u
counted_more n k b c p u is_open is len less = let short : length u < n =
    omega (arith, len, less) in rw (← len) (record {
      opened = (
        omega (arith, short),
        omega (arith, ap length is, length-append b u, short, is_open.1),
        is_open.2,
      );
      steps = record {
        forward = λ more body h. counted_forward n b c p u more body is short h;
        backward = λ more body h. counted_backward n b c p u more body is short h;
      };
      splits = record {
        past = u;
        are = no_part p p u is_open.2 is_open.2;
        backward =
            λ more body h. counted_backward n b c [] u more body is short h;
      };
      kept = λ e. refl;
      less = λ e. omega (arith, short);
    })

last_forward : (n : ℕ) (b c p u more : List ℕ) (body : Option (List ℕ)) → c ≡ b ++ u → length u ≡ n
    → Becomes (at (Counted n) b p) (u ++ more) body → Becomes (at Whole c p) more body
last_forward n b c p u more None is len h = h
last_forward n b c p u more (Some body) is len h = let same =
    behind_same u h.0 more h.1 (len ∙ sym h.2) h.3 in h.4 ∙ ap (λ s. b ++ s) (sym same.0) ∙ sym is

last_backward : (n : ℕ) (b c p u more : List ℕ) (body : Option (List ℕ)) → c ≡ b ++ u → length u ≡ n
    → Becomes (at Whole c p) more body → Becomes (at (Counted n) b p) (u ++ more) body
last_backward n b c p u more None is len h = h
last_backward n b c p u more (Some body) is len h = (u, more, len, refl, h ∙ is)

pub counted_last : (n : ℕ) (b c p u : List ℕ) → IsOpen (at (Counted n) b p) → c ≡ b ++ u
    → length u ≡ n → Reaches (at (Counted n) b p) (at Whole c p) u
counted_last n b c p u is_open is len = record {
  opened = (omega (arith, ap length is, length-append b u, len, is_open.1), is_open.2);
  steps = record {
    forward = λ more body h. last_forward n b c p u more body is len h;
    backward =
        λ more body h. last_backward n b c p u more body is len h;
  };
  splits = record {
    past = u;
    are = no_part p p u is_open.2 is_open.2;
    backward =
        λ more body h. last_backward n b c [] u more body is len h;
  };
  kept = λ e. absurd cc;
  less = λ e. absurd cc;
}

-- ---- the bytes of a chunk

content_forward : (n : ℕ) (b c u more : List ℕ) (body : Option (List ℕ)) → c ≡ b ++ u → length u < n
    → HasContent n b (u ++ more) body → HasContent (n - length u) c more body
content_forward n b c u more body is short h =
    let le : length u ≤ length h.0 = omega (arith, h.2) in
    let y = drop (length u) h.0 in
    let behind = 13 ∷ 10 ∷ h.1 in
    let front : h.0 ≡ u ++ y = front_of h.0 behind u more (sym h.3) le in
    let grown : b ++ h.0 ≡ c ++ y =
    ap (λ s. b ++ s) front ∙ sym (append_assoc b u y) ∙ ap (λ s. s ++ y) (sym is) in
    let P : List ℕ → Type 0 = λ s. HasChunks s h.1 body in (
      y,
      h.1,
      omega (arith, ap length front, length-append u y, h.2),
      rest_of u more h.0 behind h.3
          le,
      subst P grown h.4,
    )

content_backward : (n : ℕ) (b c u more : List ℕ) (body : Option (List ℕ)) → c ≡ b ++ u
    → length u < n → HasContent (n - length u) c more body → HasContent n b (u ++ more) body
content_backward n b c u more body is short h =
    let grown : c ++ h.0 ≡ b ++ (u ++ h.0) = ap (λ s. s ++ h.0) is ∙ append_assoc b u h.0 in
    let P : List ℕ → Type 0 = λ s. HasChunks s h.1 body in (
      u ++ h.0,
      h.1,
      omega (arith, length-append u h.0, h.2, short),
      ap (λ s. u ++ s) h.3
          ∙ sym (append_assoc u h.0 (13 ∷ 10 ∷ h.1)),
      subst P grown h.4,
    )

pub content_more : (n k : ℕ) (b c p u : List ℕ) → IsOpen (at (Content n) b p) → c ≡ b ++ u
    → length u ≡ k → k < n → Reaches (at (Content n) b p) (at (Content (n - k)) c p) u
content_more n k b c p u is_open is len less = let short : length u < n =
    omega (arith, len, less) in rw (← len) (record {
      opened = (
        omega (arith, short),
        omega (arith, ap length is, length-append b u, short, is_open.1),
        is_open.2,
      );
      steps = record {
        forward = λ more body h. content_forward n b c u more body is short h;
        backward =
            λ more body h. content_backward n b c u more body is short h;
      };
      splits = record {
        past = u;
        are = no_part p p u is_open.2 is_open.2;
        backward =
            λ more body h. content_backward n b c u more body is short h;
      };
      kept = λ e. refl;
      less = λ e. omega (arith, short, ap length is, length-append b u, is_open.1);
    })

end_forward : (n : ℕ) (b c p u more : List ℕ) (body : Option (List ℕ)) → c ≡ b ++ u → length u ≡ n
    → HasContent n b (u ++ more) body → Becomes (at Return c p) more body
end_forward n b c p u more body is len h =
    let same = behind_same u h.0 more (13 ∷ 10 ∷ h.1) (len ∙ sym h.2) h.3 in
    let grown : b ++ h.0 ≡ c = ap (λ s. b ++ s) (sym same.0) ∙ sym is in
    let P : List ℕ → Type 0 = λ s. HasChunks s h.1 body in
    (h.1, same.1, subst P grown h.4)

end_backward : (n : ℕ) (b c p u more : List ℕ) (body : Option (List ℕ)) → c ≡ b ++ u → length u ≡ n
    → Becomes (at Return c p) more body → HasContent n b (u ++ more) body
end_backward n b c p u more body is len h =
    let P : List ℕ → Type 0 = λ s. HasChunks s h.0 body in
    (u, h.0, len, ap (λ s. u ++ s) h.1, subst P is h.2)

pub content_end : (n : ℕ) (b c p u : List ℕ) → IsOpen (at (Content n) b p) → c ≡ b ++ u
    → length u ≡ n → Reaches (at (Content n) b p) (at Return c p) u
content_end n b c p u is_open is len = record {
  opened = (omega (arith, ap length is, length-append b u, len, is_open.1), is_open.2);
  steps = record {
    forward = λ more body h. end_forward n b c p u more body is len h;
    backward =
        λ more body h. end_backward n b c p u more body is len h;
  };
  splits = record {
    past = u;
    are = no_part p p u is_open.2 is_open.2;
    backward =
        λ more body h. end_backward n b c [] u more body is len h;
  };
  kept = λ e. refl;
  less = λ e. omega (arith, len, ap length is, length-append b u, is_open.1);
}

-- ---- the line end of a chunk

pub no_line_yet : HasNoChunkLine []
unfolding print_chunk_line
no_line_yet l rest h =
    omega (arith, h.0.digits.0, ap length h.1, simp length-append at (ap length h.1))

abbrev first_line : ChunkLine
first_line = record { digits = 48 ∷ []; pad = []; extension = None }

-- any line may follow where there is no byte of one
pub line_may_come : MayBecomeChunkLine []
line_may_come = (
  print_chunk_line first_line,
  first_line,
  (
    record {
      digits = (
        omega arith,
        omega arith,
        All-cons (λ b. is_ascii_hexdigit b ≡ true) 48 []
            refl (All-nil _),
      );
      pad = All-nil _;
      extension = tt;
    },
    sym
        (append-nil (print_chunk_line first_line)),
  ),
)

pub return_reaches : (b p : List ℕ) → IsOpen (at Return b p)
    → Reaches (at Return b p) (at LineFeed b p) (13 ∷ [])
return_reaches b p is_open = record {
  opened = (is_open.0, is_open.1);
  steps = record {
    forward = λ more body h. (h.0, cc (h.1), h.2);
    backward =
        λ more body h. (h.0, ap (λ s. 13 ∷ s) h.1, h.2);
  };
  splits = record {
    past = 13 ∷ [];
    are = no_part p p (13 ∷ []) is_open.1 is_open.1;
    backward =
        λ more body h. (h.0, ap (λ s. 13 ∷ s) h.1, h.2);
  };
  kept = λ e. refl;
  less = λ e. omega arith;
}

pub line_feed_reaches : (b p : List ℕ) → IsOpen (at LineFeed b p)
    → Reaches (at LineFeed b p) (at Line b []) (10 ∷ [])
line_feed_reaches b p is_open = record {
  opened = (omega arith, is_open.0, no_line_yet, line_may_come);
  steps = record {
    forward = λ more body h. let e : more ≡ h.0 = cc (h.1) in
        let P : List ℕ → Type 0 = λ s. HasChunks b s body in subst P (sym e) h.2;
    backward = λ more body h. (more, refl, h);
  };
  splits = record {
    past = 10 ∷ [];
    are = no_part p [] (10 ∷ []) is_open.1 refl;
    backward =
        λ more body h. (more, refl, h);
  };
  kept = λ e. refl;
  less = λ e. omega arith;
}

-- ---- a size line

-- the line that was found, and where it ends in the piece
pub at_line : (b part piece buf : List ℕ) (had n len size : ℕ) (l : ChunkLine)
    → IsOpen (at Line b part) → had ≡ length part → n ≤ length piece → n ≤ 1024 - had
    → buf ≡ part ++ take n piece → IsChunkLineAt buf len size l
    → EndsIn part piece (print_chunk_line l) had n len × IsLine l
at_line b part piece buf had n len size l is_open had_is within fits is found =
    let P : List ℕ → Type 0 = λ s. IsChunkLineAt s len size l in
    let there = subst P is found in
    let t = text_taken part piece (print_chunk_line l) (drop len (part ++ take n piece)) had n len
    had_is there.len_is within there.reads.1 (λ after e. is_open.2 l after (there.reads.0, e))
    in (
      t,
      record {
        valid = found.reads.0;
        short =
            omega (arith, found.len_is, t.within, t.some, fits);
      },
    )

-- a line that is not whole yet
pub line_more : (b part buf u : List ℕ) → IsOpen (at Line b part) → buf ≡ part ++ u
    → HasNoChunkLine buf → MayBecomeChunkLine buf → length buf < 1024
    → Reaches (at Line b part) (at Line b buf) u
line_more b part buf u is_open is none may short =
    let same : (more : List ℕ) → part ++ (u ++ more) ≡ buf ++ more =
    λ more. sym (append_assoc part u more) ∙ ap (λ s. s ++ more) (sym is) in record {
      opened = (short, is_open.1, none, may);
      steps = record {
        forward = λ more body h. subst (λ (s : List ℕ). HasChunks b s body) (same more) h;
        backward = λ more body h. subst (λ (s : List ℕ). HasChunks b s body) (sym (same more)) h;
      };
      splits = record { past = []; are = sym is; backward = λ more body h. h };
      kept = λ e. refl;
      less = λ e. omega (arith, ap length is, length-append part u, short);
    }

-- a line that was read, and what follows the piece
after_line : (part v more : List ℕ) (l : ChunkLine) → part ++ v ≡ print_chunk_line l
    → part ++ (v ++ more) ≡ print_chunk_line l ++ more
after_line part v more l e = sym (append_assoc part v more) ∙ ap (λ s. s ++ more) e

zero_becomes : (b part v more : List ℕ) (l : ChunkLine) (body : Option (List ℕ))
    → part ++ v ≡ print_chunk_line l → IsLine l → chunk_size l ≡ 0
    → Becomes (at Line b part) (v ++ more) body → Becomes (at Trailer b []) more body
zero_becomes b part v more l None e is zero h =
    zero_not_over b l more is zero h.0
    (subst (λ (s : List ℕ). AreChunks b s h.0 None) (after_line part v more l e) h.1)
zero_becomes b part v more l (Some body) e is zero h =
    zero_forward b l more is zero h.0 body
    (subst (λ (s : List ℕ). AreChunks b s h.0 (Some body)) (after_line part v more l e) h.1)

zero_comes : (b part v more : List ℕ) (l : ChunkLine) (body : Option (List ℕ))
    → part ++ v ≡ print_chunk_line l → IsLine l → chunk_size l ≡ 0
    → Becomes (at Trailer b []) more body → Becomes (at Line b part) (v ++ more) body
zero_comes b part v more l None e is zero h = absurd h
zero_comes b part v more l (Some body) e is zero h =
    subst (λ (s : List ℕ). HasChunks b s (Some body)) (sym (after_line part v more l e))
    (zero_backward b l more is zero body h.0 h.1)

nothing_is_printed : (fields : List Field) (last : LineEnd) → 0 < length (print_section fields last)
nothing_is_printed fields crlf =
    omega (arith, length-append (flat_map print_field fields) (13 ∷ 10 ∷ []))
nothing_is_printed fields lf = omega (arith, length-append (flat_map print_field fields) (10 ∷ []))

no_section_yet : HasNoSection []
no_section_yet fields last rest h =
    omega (
      arith,
      ap length h.1,
      length-append (print_section fields last) rest,
      nothing_is_printed
          fields last,
    )

-- any section may follow where there is no byte of one
section_may_come : MayBecomeSection []
section_may_come =
    (print_section [] lf, [], lf, (All-nil _, sym (append-nil (print_section [] lf))))

pub line_zero : (b part v : List ℕ) (l : ChunkLine) → IsOpen (at Line b part)
    → part ++ v ≡ print_chunk_line l → IsLine l → chunk_size l ≡ 0
    → Reaches (at Line b part) (at Trailer b []) v
line_zero b part v l is_open e is zero = record {
  opened = (omega arith, is_open.1, no_section_yet, section_may_come);
  steps = record {
    forward = λ more body h. zero_becomes b part v more l body e is zero h;
    backward = λ more body h. zero_comes b part v more l body e is zero h;
  };
  splits = record {
    past = part ++ v;
    are = sym (append-nil (part ++ v));
    backward =
        λ more body h. zero_comes b [] (part ++ v) more l body e is zero h;
  };
  kept = λ _. refl;
  less = λ _. omega (arith, ap length e, length-append part v, is.short);
}

pub line_fits : (b part v : List ℕ) (l : ChunkLine) (n : ℕ) → IsOpen (at Line b part)
    → part ++ v ≡ print_chunk_line l → IsLine l → n ≡ chunk_size l → 0 < n → n ≤ room b
    → Reaches (at Line b part) (at (Content n) b []) v
line_fits b part v l n is_open e is size some fits = record {
  opened = (some, omega (arith, fits, is_open.1), refl);
  steps = record {
    forward = λ more body h.
        let P : ℕ → Type 0 = λ k. HasContent k b more body in
        subst P (sym size) (fits_forward b l more is (omega arith) (omega arith) h.0 body
        (subst (λ (s : List ℕ). AreChunks b s h.0 body) (after_line part v more l e) h.1));
    backward = λ more body h.
        let P : ℕ → Type 0 = λ k. HasContent k b more body in
        subst (λ (s : List ℕ). HasChunks b s body) (sym (after_line part v more l e))
        (fits_backward b l more is (omega arith) (omega arith) body (subst P size h));
  };
  splits = record {
    past = part ++ v;
    are = sym (append-nil (part ++ v));
    backward = λ more body h.
        let P : ℕ → Type 0 = λ k. HasContent k b more body in
        subst (λ (s : List ℕ). HasChunks b s body) (ap (λ s. s ++ more) (sym e))
        (fits_backward b l more is (omega arith) (omega arith) body (subst P size h));
  };
  kept = λ _. refl;
  less = λ _. omega (arith, ap length e, length-append part v, is.short, some, fits);
}

pub line_over : (b part v w : List ℕ) (l : ChunkLine) → part ++ v ≡ print_chunk_line l → IsLine l
    → room b < chunk_size l → Refuses BodyTooLong (at Line b part) (v ++ w)
line_over b part v w l e is large more =
    let same : part ++ ((v ++ w) ++ more) ≡ print_chunk_line l ++ (w ++ more) =
    ap (λ s. part ++ s) (append_assoc v w more) ∙ after_line part v (w ++ more) l e in
    subst (λ (s : List ℕ). HasChunks b s None) (sym same) (over b l (w ++ more) is large)

pub line_refused : (b part u w : List ℕ)
    → ((more : List ℕ) (body : Option (List ℕ)) → ¬ (HasChunks b ((part ++ u) ++ more) body))
    → Refuses BadChunk (at Line b part) (u ++ w)
line_refused b part u w never more body h =
    let same : part ++ ((u ++ w) ++ more) ≡ (part ++ u) ++ (w ++ more) =
    ap (λ s. part ++ s) (append_assoc u w more) ∙ sym (append_assoc part u (w ++ more)) in
    never (w ++ more) body (subst (λ (s : List ℕ). HasChunks b s body) same h)

-- ---- the trailer section

whole_forward : (b part bytes more : List ℕ) (body : Option (List ℕ))
    → Becomes (at Trailer b part) bytes body → Becomes (at Whole b []) more body
whole_forward b part bytes more None h = h
whole_forward b part bytes more (Some body) h = h.1

whole_backward : (b part bytes more : List ℕ) (body : Option (List ℕ)) → HasTrailer (part ++ bytes)
    → Becomes (at Whole b []) more body → Becomes (at Trailer b part) bytes body
whole_backward b part bytes more None t h = h
whole_backward b part bytes more (Some body) t h = (t, h)

trailer_refused : (b part u w : List ℕ) → ((more : List ℕ) → ¬ (HasTrailer ((part ++ u) ++ more)))
    → Refuses BadChunk (at Trailer b part) (u ++ w)
trailer_refused b part u w never more None h = h
trailer_refused b part u w never more (Some body) h =
    let same : part ++ ((u ++ w) ++ more) ≡ (part ++ u) ++ (w ++ more) =
    ap (λ s. part ++ s) (append_assoc u w more) ∙ sym (append_assoc part u (w ++ more)) in
    never (w ++ more) (subst HasTrailer same h.0)

pub trailer_overflows : (b part u w : List ℕ) → SectionOverflows 64 (part ++ u)
    → Refuses BadChunk (at Trailer b part) (u ++ w)
trailer_overflows b part u w many =
    trailer_refused b part u w (λ more t. omega (arith, many more t.0 t.1 t.2 t.3.reads, t.3.few))

pub trailer_long : (b part u w : List ℕ) → HasNoSection (part ++ u) → 16384 ≤ length (part ++ u)
    → Refuses BadChunk (at Trailer b part) (u ++ w)
trailer_long b part u w none long =
    trailer_refused b part u w (λ more t.
    let text = print_section t.0 t.1 in
    none t.0 t.1 (drop (length text) (part ++ u)) (
      t.3.reads.0,
      front_of (part ++ u) more text t.2 t.3.reads.1
          (omega (arith, t.3.short, long)),
    ))

trailer_becomes : (b s t : List ℕ) (body : Option (List ℕ)) → s ≡ t → (p q x y : List ℕ)
    → s ≡ p ++ x → t ≡ q ++ y → Becomes (at Trailer b p) x body → Becomes (at Trailer b q) y body
trailer_becomes b s t None same p q x y left right h = h
trailer_becomes b s t (Some body) same p q x y left right h =
    (subst HasTrailer (sym left ∙ same ∙ right) h.0, h.1)

-- a section that is not whole yet
pub trailer_more : (b part buf u : List ℕ) → IsOpen (at Trailer b part) → buf ≡ part ++ u
    → HasNoSection buf → MayBecomeSection buf → length buf < 16384
    → Reaches (at Trailer b part) (at Trailer b buf) u
trailer_more b part buf u is_open is none may short =
    let same : (more : List ℕ) → part ++ (u ++ more) ≡ buf ++ more =
    λ more. sym (append_assoc part u more) ∙ ap (λ s. s ++ more) (sym is) in record {
      opened = (short, is_open.1, none, may);
      steps = record {
        forward = λ more body h. trailer_becomes b (part ++ (u ++ more)) (buf ++ more) body
            (same more) part buf (u ++ more) more refl refl h;
        backward = λ more body h. trailer_becomes b (buf ++ more) (part ++ (u ++ more)) body
            (sym (same more)) buf part more (u ++ more) refl refl h;
      };
      splits = record { past = []; are = sym is; backward = λ more body h. h };
      kept = λ e. refl;
      less = λ e. omega (arith, ap length is, length-append part u, short);
    }

-- a section that ends in the piece is a trailer section, whatever follows
pub trailer_whole : (b part u w : List ℕ) (spans : List HeaderSpan) (len count : ℕ)
    (fields : List Field) (last : LineEnd) → IsOpen (at Trailer b part) → length (part ++ u) ≤ 16384
    → length spans ≡ 64
    → IsSectionAt (part ++ u) 0 spans len count fields last
    → IsSectionWithin (part ++ u) spans len count
    → Reaches (at Trailer b part) (at Whole b []) (u ++ w)
trailer_whole b part u w spans len count fields last is_open short room_ at_ within =
    let few : length fields ≤ 64 = omega (
      arith,
      ap length at_.fields_are,
      length-map (take count spans) (header_bytes (part ++ u)),
      length-map fields name_and_value,
      length-take count spans,
    ) in
    let there : (more : List ℕ) → HasTrailer (part ++ ((u ++ w) ++ more)) = λ more.
    let same : (part ++ u) ++ (w ++ more) ≡ part ++ ((u ++ w) ++ more) =
    append_assoc part u (w ++ more) ∙ ap (λ s. part ++ s) (sym (append_assoc u w more)) in
    subst HasTrailer same (
      fields,
      last,
      drop len (part ++ u)
          ++ (w ++ more),
      record {
        reads =
            ReadsSection-append (part ++ u) fields last (drop len (part ++ u)) (w ++ more)
            at_.reads;
        few = few;
        short = omega (arith, at_.len_is, within.len_fits, short);
      },
    )
    in
    record {
      opened = (is_open.1, refl);
      steps = record {
        forward = λ more body h. whole_forward b part ((u ++ w) ++ more) more body h;
        backward =
            λ more body h. whole_backward b part ((u ++ w) ++ more) more body (there more) h;
      };
      splits = record {
        past = part ++ (u ++ w);
        are = sym (append-nil (part ++ (u ++ w)));
        backward = λ more body h. whole_backward b [] ((part ++ (u ++ w)) ++ more) more body
            (subst HasTrailer (sym (append_assoc part (u ++ w) more)) (there more)) h;
      };
      kept = λ e. absurd cc;
      less = λ e. absurd cc;
    }

-- ---- behind a whole body

stays_whole : (content part bytes more : List ℕ) (body : Option (List ℕ))
    → Becomes (at Whole content part) more body → Becomes (at Whole content part) bytes body
stays_whole content part bytes more None h = h
stays_whole content part bytes more (Some body) h = h

pub whole_reaches : (content part bytes : List ℕ) → IsOpen (at Whole content part)
    → Reaches (at Whole content part) (at Whole content part) bytes
whole_reaches content part bytes opened = record {
  opened = opened;
  steps = record {
    forward = λ more body h. stays_whole content part more (bytes ++ more) body h;
    backward = λ more body h. stays_whole content part (bytes ++ more) more body h;
  };
  splits = record {
    past = bytes;
    are = no_part part part bytes opened.1 opened.1;
    backward =
        λ more body h. stays_whole content [] (bytes ++ more) more body h;
  };
  kept = λ e. e;
  less = λ e. absurd cc;
}

-- ---- one step after another

pub stays : (s : BodyState) → IsOpen s → Reaches s s []
stays s opened = record {
  opened = opened;
  steps = record { forward = λ more body h. h; backward = λ more body h. h };
  splits = record { past = []; are = append-nil s.part; backward = λ more body h. h };
  kept = λ e. e;
  less = λ e. omega arith;
}

splits_on : (old mid new : BodyState) (u v : List ℕ) → Splits old mid u → Splits mid new v
    → Splits old new (u ++ v)
splits_on old mid new u v first second = record {
  past = first.past ++ second.past;
  are = sym (append_assoc old.part u v) ∙ ap (λ s. s ++ v) first.are
      ∙ append_assoc first.past mid.part v ∙ ap (λ s. first.past ++ s) second.are
      ∙ sym (append_assoc first.past second.past new.part);
  backward = λ more body h. subst (λ (s : List ℕ). Becomes (bare old) s body)
      (sym (append_assoc first.past second.past more))
      (first.backward (second.past ++ more) body (second.backward more body h));
}

pub goes_on : (old mid new : BodyState) (u v : List ℕ) → Reaches old mid u → Reaches mid new v
    → Reaches old new (u ++ v)
goes_on old mid new u v first second =
    let same : (more : List ℕ) → u ++ (v ++ more) ≡ (u ++ v) ++ more =
    λ more. sym (append_assoc u v more) in record {
      opened = second.opened;
      steps = record {
        forward = λ more body h. second.steps.forward more body
            (first.steps.forward (v ++ more) body
            (subst (λ (s : List ℕ). Becomes old s body) (sym (same more)) h));
        backward = λ more body h. subst (λ (s : List ℕ). Becomes old s body) (same more)
            (first.steps.backward (v ++ more) body (second.steps.backward more body h));
      };
      splits = splits_on old mid new u v first.splits second.splits;
      kept = λ e. first.kept (second.kept e);
      less = λ e. omega (arith, second.less e, first.less (second.kept e), length-append u v);
    }

pub refused_later : (old mid : BodyState) (u v : List ℕ) (e : HttpFault) → Reaches old mid u
    → Refuses e mid v → Refuses e old (u ++ v)
refused_later old mid u v BadChunk first h =
    λ more body is. h more body (first.steps.forward (v ++ more) body
    (subst (λ (s : List ℕ). Becomes old s body) (append_assoc u v more) is))
refused_later old mid u v BodyTooLong first h =
    λ more. subst (λ (s : List ℕ). Becomes old s None) (sym (append_assoc u v more))
    (first.steps.backward (v ++ more) None (h more))
refused_later old mid u v e first h = h
