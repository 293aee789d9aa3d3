-- What a fault says of bytes, it says of more bytes.
use Rattle.std.proofs.Common.{◌≡◌, ℕ, List, [], ◌∷◌, ◌++◌, drop, take, Option, Some, None, Err, sym}
use Rattle.std.proofs.Common.{ap, subst, ◌∙◌, arith, append_assoc}
use Rattle.std.proofs.lemmas.List.{length-append, take-append-drop}
use Rattle.httparse.specs.Grammar.{RequestHead, ReadsRequest, ChunkLine}
use Rattle.httparse.specs.declared.spans.HeaderSpan.{HeaderSpan}
use Rattle.httparse.specs.declared.spans.RequestSpans.{RequestSpans}
use Rattle.httparse.proofs.ChunkLemmas.{ReadsChunkLine-append}
use Rattle.httparse.proofs.GrammarLemmas.{ReadsRequest-append, ReadsSection-append}
use Rattle.http_edge.specs.declared.fault.HttpFault.{HttpFault}
use Rattle.http_edge.specs.declared.fault.HttpFault.TheVariants.{BadHead, TooManyHeaders}
use Rattle.http_edge.specs.declared.fault.HttpFault.TheVariants.{HeadTooLong, BadLength}
use Rattle.http_edge.specs.declared.fault.HttpFault.TheVariants.{BodyTooLong, BadChunk, NoMemory}
use Rattle.http_edge.specs.declared.framing.Framing.{Framing}
use Rattle.http_edge.specs.declared.framing.Framing.TheVariants.{Sized, Chunked}
use Rattle.http_edge.specs.Chunks.{Chunk, IsSizeLine, HasTrailer, AreChunks}
use Rattle.http_edge.specs.Message.{Message, IsHeadAt}
use Rattle.http_edge.specs.Reading.{framing_in, HasBody, Reads, BeginsWith, NotYet}
use Rattle.http_edge.specs.inner.Framing.{Frames}
use Rattle.http_edge.specs.inner.Head.{FindsHead, LooksForHead}
use Rattle.http_edge.specs.Form.{IsLasting}
use Rattle.http_edge.specs.Answer.{Explains, Fails}

pub IsHeadAt-append : (buf more : List ℕ) (k : RequestHead) (after : List ℕ) → IsHeadAt buf k after
    → IsHeadAt (buf ++ more) k (after ++ more)
IsHeadAt-append buf more k after is =
    record { reads = ReadsRequest-append buf k after more is.reads; few = is.few; short = is.short }

trailer-append : (buf more : List ℕ) → HasTrailer buf → HasTrailer (buf ++ more)
trailer-append buf more t = (
  t.0,
  t.1,
  t.2
      ++ more,
  record {
    reads = ReadsSection-append buf t.0 t.1 t.2 more t.3.reads;
    few =
        t.3.few;
    short = t.3.short;
  },
)

line-append : (buf more : List ℕ) (l : ChunkLine) (rest : List ℕ) → IsSizeLine buf l rest
    → IsSizeLine (buf ++ more) l (rest ++ more)
line-append buf more l rest is =
    record { reads = ReadsChunkLine-append buf l rest more is.reads; short = is.short }

chunks-append : (before buf more : List ℕ) (cs : List Chunk) (o : Option (List ℕ))
    → AreChunks before buf cs o → AreChunks before (buf ++ more) cs o
chunks-append before buf more [] (Some body) h =
    (h.0, h.1 ++ more, line-append buf more h.0 h.1 h.2, h.3, trailer-append h.1 more h.4, h.5)
chunks-append before buf more [] None h = (h.0, h.1 ++ more, line-append buf more h.0 h.1 h.2, h.3)
chunks-append before buf more (c ∷ cs) o h =
    let P : List ℕ → Type 0 = λ s. IsSizeLine (buf ++ more) c.0 s in
    let line = subst P (append_assoc c.1 (13 ∷ 10 ∷ h.0) more)
    (line-append buf more c.0 (c.1 ++ 13 ∷ 10 ∷ h.0) h.1.line) in (
      h.0 ++ more,
      record { line = line; sized = h.1.sized; some = h.1.some; fits = h.1.fits },
      chunks-append (before ++ c.1) h.0 more cs o h.2,
    )

body-append : (framing : Option Framing) (after more : List ℕ) (o : Option (List ℕ))
    → HasBody framing after o → HasBody framing (after ++ more) o
body-append None after more o h = h
body-append (Some Chunked) after more o h = (h.0, chunks-append [] after more h.0 o h.1)
body-append (Some (Sized n)) after more None h = h
body-append (Some (Sized n)) after more (Some body) h =
    (h.0, h.1, (h.2.0 ++ more, ap (λ s. s ++ more) h.2.1 ∙ append_assoc body h.2.0 more))

-- what bytes begin with, more bytes begin with
pub reads-append : (buf more : List ℕ) (k : RequestHead) (o : Option (List ℕ)) → Reads buf k o
    → Reads (buf ++ more) k o
reads-append buf more k o r = (
  r.0
      ++ more,
  record {
    at = IsHeadAt-append buf more k r.0 r.1.at;
    has =
        body-append (framing_in k) r.0 more o r.1.has;
  },
)

pub begins-append : (buf more : List ℕ) (m : Message) → BeginsWith buf m
    → BeginsWith (buf ++ more) m
begins-append buf more m b = (b.0, b.1, reads-append buf more b.0 (Some b.1) b.2, b.3)

reads_later : (bytes more m : List ℕ) (h : RequestHead) (rest : List ℕ)
    → ReadsRequest ((bytes ++ more) ++ m) h rest → ReadsRequest (bytes ++ (more ++ m)) h rest
reads_later bytes more m h rest r =
    subst (λ (s : List ℕ). ReadsRequest s h rest) (append_assoc bytes more m) r

pub explains_more : (e : HttpFault) (bytes more : List ℕ) → IsLasting e → Explains e bytes
    → Explains e (bytes ++ more)
explains_more BadHead bytes more lasts is =
    λ m h rest r. is (more ++ m) h rest (reads_later bytes more m h rest r)
explains_more TooManyHeaders bytes more lasts is =
    let x = is.1 in (
      λ m h rest r. is.0 (more ++ m) h rest (reads_later bytes more m h rest r),
      (x.0, x.1 ++ more, ap (λ s. s ++ more) x.2 ∙ append_assoc x.0 x.1 more, x.3, x.4, x.5),
    )
explains_more HeadTooLong bytes more lasts is = (
  omega (arith, is.0, length-append bytes more),
  λ m h rest r. is.1 (more ++ m) h rest
      (reads_later bytes more m h rest r),
)
explains_more BadLength bytes more lasts is =
    (is.0, is.1 ++ more, IsHeadAt-append bytes more is.0 is.1 is.2, is.3)
explains_more BodyTooLong bytes more lasts is = (is.0, reads-append bytes more is.0 None is.1)
explains_more BadChunk bytes more lasts is = (
  is.0,
  is.1 ++ more,
  IsHeadAt-append bytes more is.0 is.1 is.2,
  is.3,
  λ m. subst NotYet
      (sym (append_assoc bytes more m)) (is.4 (more ++ m)),
)
explains_more NoMemory bytes more lasts is = is
explains_more e bytes more lasts is = absurd lasts

pub fails_more : (e : HttpFault) (bytes more : List ℕ) → Fails e bytes → Fails e (bytes ++ more)
fails_more e bytes more f = (f.0, explains_more e bytes more f.0 f.1)

-- what a fault says of the part so far and the front of a piece, it says of that part and the piece
pub fails_whole : (e : HttpFault) (buf part piece : List ℕ) (n : ℕ) → buf ≡ part ++ take n piece
    → Fails e buf → Fails e (part ++ piece)
fails_whole e buf part piece n is f =
    subst (Fails e) (ap (λ s. s ++ drop n piece) is
    ∙ append_assoc part (take n piece) (drop n piece)
    ∙ ap (λ s. part ++ s) (take-append-drop n piece)) (fails_more e buf (drop n piece) f)

-- ---- faults of a head

pub looks_fails : (e : HttpFault) (buf : List ℕ) (spans : List HeaderSpan)
    → LooksForHead buf spans (Err e) → Fails e buf
looks_fails BadHead buf spans is = (tt, is)
looks_fails TooManyHeaders buf spans is = (tt, is)
looks_fails HeadTooLong buf spans is = (tt, is)
looks_fails e buf spans is = absurd is

pub head_found : (buf : List ℕ) (spans : List HeaderSpan) (r : RequestSpans) (k : RequestHead)
    → FindsHead buf spans r k → IsHeadAt buf k (drop r.len buf)
head_found buf spans r k found =
    record { reads = found.at.reads; few = found.few; short = found.short }

pub frames_fails : (e : HttpFault) (buf after : List ℕ) (k : RequestHead) (framing : Option Framing)
    → IsHeadAt buf k after → framing ≡ framing_in k → Frames framing (Err e) → Fails e buf
frames_fails BadLength buf after k framing at is f = (tt, (k, after, at, sym is ∙ f))
frames_fails BodyTooLong buf after k framing at is f =
    let P : Option Framing → Type 0 = λ x. HasBody x after None in
    (tt, (k, (after, record { at = at; has = subst P (sym f.1 ∙ is) f.2 })))
frames_fails e buf after k framing at is f = absurd f
