-- What a machine holds, step by step.
use Rattle.std.proofs.Common.{◌≡◌, ◌≢◌, ℕ, ◌-◌, ◌<◌, ◌≤◌, Bool, true, false, zero, suc, List, []}
use Rattle.std.proofs.Common.{◌∷◌, ◌++◌, length, map, drop, take, Option, Some, None, Ok, Err, inl}
use Rattle.std.proofs.Common.{refl, sym, ap, subst, ◌∙◌, arith, append_assoc}
use Rattle.std.specs.Prelude.{Result, IfOk, IfErr, IsAscii}
use Rattle.std.proofs.lemmas.Str.{IsUtf8-from_ascii}
use Rattle.std.proofs.lemmas.List.Elements.{All-cons, All-nil}
use Rattle.std.proofs.lemmas.List.{length-append, length-take, length-drop, append-nil}
use Rattle.std.proofs.lemmas.List.{take-append-drop, take_at, nil_from_length}
use Rattle.httparse.specs.Grammar.{RequestHead, print_request, ReadsRequest, HasNoRequest}
use Rattle.httparse.specs.Grammar.{MayBecomeRequest, lf, is_token_byte, is_uri_byte}
use Rattle.httparse.specs.declared.spans.HeaderSpan.{HeaderSpan}
use Rattle.httparse.specs.declared.spans.RequestSpans.{RequestSpans}
use Rattle.httparse.specs.Spans.{IsRequestAt, header_bytes}
use Rattle.httparse.proofs.GrammarLemmas.{request_prefix_free}
use Rattle.http_edge.specs.declared.fault.HttpFault.{HttpFault}
use Rattle.http_edge.specs.declared.fault.HttpFault.TheVariants.{BodyTooLong, BadChunk, NoMemory}
use Rattle.http_edge.specs.declared.framing.Framing.{Framing}
use Rattle.http_edge.specs.declared.framing.Framing.TheVariants.{Sized, Chunked}
use Rattle.http_edge.specs.declared.phase.Phase.{Phase}
use Rattle.http_edge.specs.declared.phase.Phase.TheVariants.{Counted, Line, Content, Return}
use Rattle.http_edge.specs.declared.phase.Phase.TheVariants.{LineFeed, Trailer, Whole}
use Rattle.http_edge.specs.Message.{Message, IsHeadAt}
use Rattle.http_edge.specs.Framing.{framing_by}
use Rattle.http_edge.specs.inner.Framing.{Frames}
use Rattle.http_edge.specs.Chunks.{HasTrailer, HasChunks}
use Rattle.http_edge.specs.inner.Head.{FindsHead}
use Rattle.http_edge.specs.Reading.{HasBody, framing_in, message_of, Reads, BeginsWith, NotYet}
use Rattle.http_edge.specs.Body.{BodyState, Becomes, Grows, IsOpen, is_whole}
use Rattle.http_edge.specs.inner.Body.{Reaches, Refuses}
use Rattle.http_edge.specs.Answer.{Fails, Reports}
use Rattle.http_edge.specs.Holds.{Progress, in_head, in_body, failed, IsBehind, Holds, IsSound}
use Rattle.http_edge.specs.Holds.{fault_in}
use Rattle.http_edge.specs.inner.Holds.{start, IsFramed, Starts, EndsHead, Advances, Stops, is_done}
use Rattle.http_edge.proofs.ListLemmas.{text_taken, EndsIn}
use Rattle.http_edge.proofs.ChunkLemmas.{no_chunks}
use Rattle.http_edge.proofs.BodyLemmas.{at, no_line_yet, line_may_come}
use Rattle.http_edge.proofs.FaultLemmas.{IsHeadAt-append}

-- ---- how a body begins

pub starts_chunked : Starts Chunked (at Line [] [])
starts_chunked = record {
  opened = (omega arith, omega arith, no_line_yet, line_may_come);
  forward =
      λ more o h. h;
  backward = λ more o h. h;
  less = omega arith;
  empty = refl;
}

empty_forward : (more : List ℕ) (o : Option (List ℕ)) → HasBody (Some (Sized 0)) more o
    → Becomes (at Whole [] []) more o
empty_forward more (Some body) h = nil_from_length body h.1
empty_forward more None h = absurd (omega (arith, h))

empty_backward : (more : List ℕ) (o : Option (List ℕ)) → Becomes (at Whole [] []) more o
    → HasBody (Some (Sized 0)) more o
empty_backward more (Some body) h = (omega arith, ap length h, (more, ap (λ s. s ++ more) (sym h)))
empty_backward more None h = absurd h

pub starts_empty : Starts (Sized 0) (at Whole [] [])
starts_empty = record {
  opened = (omega arith, refl);
  forward = empty_forward;
  backward =
      empty_backward;
  less = omega arith;
  empty = refl;
}

-- ---- a head that is whole

pub framing_found : (buf : List ℕ) (spans : List HeaderSpan) (r : RequestSpans) (k : RequestHead)
    → IsRequestAt buf spans r k
    → framing_by r.version (map (header_bytes buf) (take r.headers spans)) ≡ framing_in k
framing_found buf spans r k is = ap
    (λ (n : ℕ). framing_by n (map (header_bytes buf) (take r.headers spans))) is.version
    ∙ ap (framing_by k.minor) is.fields

pub framed_ok : (f : Option Framing) (w : Framing) → Frames f (Ok w) → (f ≡ Some w) × IsFramed w
framed_ok f (Sized n) h = h
framed_ok f Chunked h = (h, tt)

-- the head is the part so far and the front of the piece
pub head_ends : (part piece buf : List ℕ) (had n : ℕ) (spans : List HeaderSpan) (r : RequestSpans)
    (k : RequestHead) → had ≡ length part → n ≤ length piece → HasNoRequest part
    → buf ≡ part ++ take n piece → FindsHead buf spans r k
    → EndsIn part piece (print_request k) had n r.len
head_ends part piece buf had n spans r k had_is within none is found =
    text_taken part piece (print_request k) (drop r.len buf) had n r.len had_is found.at.len within
    (sym is ∙ found.at.reads.1) (λ after e. none k after (found.at.reads.0, e))

pub head_whole : (part piece buf text : List ℕ) (had n : ℕ) (spans : List HeaderSpan)
    (r : RequestSpans) (k : RequestHead) (w : Framing) → had ≡ length part → n ≤ length piece
    → HasNoRequest part
    → buf ≡ part ++ take n piece → FindsHead buf spans r k → text ≡ take r.len buf
    → framing_in k ≡ Some w → IsFramed w → EndsHead part text piece (r.len - had) w
head_whole part piece buf text had n spans r k w had_is within none is found text_is framed fits =
    let ends = head_ends part piece buf had n spans r k had_is within none is found in
    let whole : text ≡ print_request k =
    text_is ∙ ap (take r.len) found.at.reads.1
    ∙ take_at (print_request k) (drop r.len buf) r.len (sym found.at.len) in
    let P : List ℕ → Type 0 = λ s. IsHeadAt s k [] in
    let head : IsHeadAt (print_request k) k [] =
    record {
      reads = (found.at.reads.0, sym (append-nil (print_request k)));
      few =
          found.few;
      short = found.short;
    } in
    record {
      within = omega (arith, ends.within, within);
      front = ends.front ∙ sym whole;
      head = k;
      at = subst P (sym whole) head;
      short = omega (arith, ap length whole, found.short);
      framed = framed;
      fits = fits;
    }

-- ---- at the end of a head

nothing_fed : (head bytes : List ℕ) (k : RequestHead) (w : Framing) (body : BodyState)
    → bytes ≡ head → length head ≤ 16384 → IsHeadAt head k [] → framing_in k ≡ Some w
    → Starts w body → IsBehind head body bytes k []
nothing_fed head bytes k w body is short at framed starts =
    let Q : Option Framing → List ℕ → Option (List ℕ) → Type 0 = HasBody in
    record {
      at = at;
      bytes_are = is ∙ sym (append-nil head);
      framed = λ e. let x : Some w ≡ None = sym framed ∙ e in cc;
      bounded = λ e. omega (arith, ap length is, short, starts.less);
      forward = λ more o h. starts.forward more o
          (subst (λ (f : Option Framing). HasBody f more o) framed h);
      backward = λ more o h. subst (λ (f : Option Framing). HasBody f more o) (sym framed)
          (starts.backward more o h);
      past = [];
      fed_is = sym starts.empty;
      before_part = λ more o h. subst (λ (f : Option Framing). HasBody f more o) (sym framed)
          (starts.backward more o (subst (λ (p : List ℕ). Grows body.phase body.content p more o)
          (sym starts.empty) h));
    }

-- ---- behind a head

pub reads_behind : (head bytes fed more : List ℕ) (body : BodyState) (k j : RequestHead)
    (o : Option (List ℕ)) → IsBehind head body bytes k fed → Reads (bytes ++ more) j o
    → HasBody (framing_in k) (fed ++ more) o
reads_behind head bytes fed more body k j o is reads =
    let e : bytes ++ more ≡ head ++ (fed ++ more) =
    ap (λ s. s ++ more) is.bytes_are ∙ append_assoc head fed more in
    let P : List ℕ → Type 0 = λ s. ReadsRequest s j reads.0 in
    let same = request_prefix_free head (fed ++ more) k j [] reads.0 is.at.reads
    (subst P e reads.1.at.reads) in
    let Q : RequestHead → Type 0 = λ z. HasBody (framing_in z) reads.0 o in
    let R : List ℕ → Type 0 = λ s. HasBody (framing_in k) s o in
    subst R (sym same.1) (subst Q (sym same.0) reads.1.has)

pub reads_ahead : (head bytes fed more : List ℕ) (body : BodyState) (k : RequestHead)
    (o : Option (List ℕ)) → IsBehind head body bytes k fed → HasBody (framing_in k) (fed ++ more) o
    → Reads (bytes ++ more) k o
reads_ahead head bytes fed more body k o is has =
    let e : head ++ (fed ++ more) ≡ bytes ++ more =
    sym (ap (λ s. s ++ more) is.bytes_are ∙ append_assoc head fed more) in
    let P : List ℕ → Type 0 = λ s. IsHeadAt s k (fed ++ more) in (
      fed ++ more,
      record { at = subst P e (IsHeadAt-append head (fed ++ more) k [] is.at); has = has },
    )

pub head_behind : (head bytes fed : List ℕ) (body : BodyState) (k : RequestHead)
    → IsBehind head body bytes k fed → IsHeadAt bytes k fed
head_behind head bytes fed body k is = let P : List ℕ → Type 0 = λ s. IsHeadAt s k fed in
    subst P (sym is.bytes_are) (IsHeadAt-append head fed k [] is.at)

pub stops_body : (e : HttpFault) (head : List ℕ) (old : BodyState) (piece : List ℕ)
    → Refuses e old piece → Stops (in_body head old) piece e
stops_body BadChunk head old piece refuses bytes h =
    let k = h.0 in
    let fed = h.1 in
    let is = h.2 in (
      tt,
      (
        k,
        fed ++ piece,
        IsHeadAt-append bytes piece k fed (head_behind head bytes fed old k is),
        is.framed,
        λ more j o reads.
            let later : Reads (bytes ++ (piece ++ more)) j o =
            subst (λ (s : List ℕ). Reads s j o) (append_assoc bytes piece more) reads in
            refuses more o (is.forward (piece ++ more) o
            (reads_behind head bytes fed (piece ++ more) old k j o is later)),
      ),
    )
stops_body BodyTooLong head old piece refuses bytes h =
    let k = h.0 in
    let fed = h.1 in
    let is = h.2 in
    let P : List ℕ → Type 0 = λ s. Reads (bytes ++ s) k None in (
      tt,
      (
        k,
        subst P (append-nil piece)
            (reads_ahead head bytes fed (piece ++ []) old k None is
            (is.backward (piece ++ []) None (refuses []))),
      ),
    )
stops_body NoMemory head old piece refuses bytes h = (tt, tt)
stops_body e head old piece refuses bytes h = absurd refuses

pub goes_on_behind : (head : List ℕ) (old new : BodyState) (piece : List ℕ) → length head ≤ 16384
    → Reaches old new piece
    → Advances (in_body head old) (in_body head new) piece (is_whole new.phase)
goes_on_behind head old new piece short reaches = record {
  sound = (short, reaches.opened);
  fine = refl;
  done_is = refl;
  holds = λ bytes h. (
    h.0,
    h.1 ++ piece,
    record {
      at = h.2.at;
      bytes_are = ap (λ s. s ++ piece) h.2.bytes_are ∙ append_assoc head h.1 piece;
      framed = h.2.framed;
      bounded = λ e. omega
          (arith, h.2.bounded (reaches.kept e), reaches.less e, length-append bytes piece);
      forward = λ more o x. reaches.steps.forward more o
          (h.2.forward (piece ++ more) o (subst (λ (s : List ℕ). HasBody (framing_in h.0) s o)
          (append_assoc h.1 piece more) x));
      backward = λ more o x. subst (λ (s : List ℕ). HasBody (framing_in h.0) s o)
          (sym (append_assoc h.1 piece more))
          (h.2.backward (piece ++ more) o (reaches.steps.backward more o x));
      past = h.2.past ++ reaches.splits.past;
      fed_is = ap (λ s. s ++ piece) h.2.fed_is ∙ append_assoc h.2.past old.part piece
          ∙ ap (λ s. h.2.past ++ s) reaches.splits.are
          ∙ sym (append_assoc h.2.past reaches.splits.past new.part);
      before_part = λ more o x. subst (λ (s : List ℕ). HasBody (framing_in h.0) s o)
          (sym (append_assoc h.2.past reaches.splits.past more))
          (h.2.before_part (reaches.splits.past ++ more) o (reaches.splits.backward more o x));
    },
  );
  less = reaches.less;
}

-- ---- what a feed returns of the bytes so far

no_bytes : (k : RequestHead) → 0 < length (print_request k)
unfolding print_request
no_bytes k = simp length-append (omega arith)

pub some_bytes : (bytes after : List ℕ) (k : RequestHead) → IsHeadAt bytes k after → bytes ≢ []
some_bytes bytes after k is e = omega
    (arith, ap length e, ap length is.reads.1, length-append (print_request k) after, no_bytes k)

pub not_yet_in_head : (head bytes : List ℕ) → HasNoRequest head → bytes ≡ head → NotYet bytes
not_yet_in_head head bytes none is k o r = let P : List ℕ → Type 0 = λ s. ReadsRequest s k r.0 in
    none k r.0 (subst P is r.1.at.reads)

pub whole_is : (p : Phase) → is_whole p ≡ true → p ≡ Whole
whole_is Whole e = refl
whole_is p e = absurd cc

nowhere : (p : Phase) (content part : List ℕ) → IsOpen (at p content part) → is_whole p ≡ false
    → (o : Option (List ℕ)) → ¬ (Becomes (at p content part) [] o)
nowhere Whole content part opened is_open o h = absurd cc
nowhere (Counted n) content part opened is_open (Some body) h =
    omega (arith, opened.0, h.2, ap length h.3, length-append h.0 h.1)
nowhere Line content part opened is_open o h = let P : List ℕ → Type 0 =
    λ s. HasChunks content s o in no_chunks content part opened.2 o (subst P (append-nil part) h)
nowhere (Content n) content part opened is_open o h =
    omega (arith, ap length h.3, length-append h.0 (13 ∷ 10 ∷ h.1))
nowhere Return content part opened is_open o h = let e : [] ≡ 13 ∷ 10 ∷ h.0 = h.1 in cc
nowhere LineFeed content part opened is_open o h = let e : [] ≡ 10 ∷ h.0 = h.1 in cc
nowhere Trailer content part opened is_open (Some body) h = let t =
    subst HasTrailer (append-nil part) h.0 in opened.2 t.0 t.1 t.2 t.3.reads
nowhere p content part opened is_open None h = h

pub not_yet_in_body : (head bytes fed : List ℕ) (body : BodyState) (k : RequestHead) → IsOpen body
    → is_whole body.phase ≡ false → IsBehind head body bytes k fed → NotYet bytes
not_yet_in_body head bytes fed body k opened is_open is j o reads =
    let P : List ℕ → Type 0 = λ s. Reads s j o in
    nowhere body.phase body.content body.part opened is_open o
    (is.forward [] o (reads_behind head bytes fed [] body k j o is
    (subst P (sym (append-nil bytes)) reads)))

pub whole_in_body : (head bytes fed content part : List ℕ) (k : RequestHead)
    → IsBehind head (at Whole content part) bytes k fed → BeginsWith bytes (message_of k content)
whole_in_body head bytes fed content part k is =
    let P : List ℕ → Type 0 = λ s. Reads s k (Some content) in (
      k,
      content,
      subst P (append-nil bytes)
          (reads_ahead head bytes fed [] (at Whole content part) k (Some content) is
          (is.backward [] (Some content) refl)),
      refl,
    )

reports_in_body : (head bytes fed : List ℕ) (body : BodyState) (k : RequestHead) (done : Bool)
    → done ≡ is_whole body.phase → IsOpen body → IsBehind head body bytes k fed
    → Reports bytes (Ok done)
reports_in_body head bytes fed body k true e opened is =
    let whole : body.phase ≡ Whole = whole_is body.phase (sym e) in
    let P : Phase → Type 0 = λ p. IsBehind head (at p body.content body.part) bytes k fed in (
      message_of k body.content,
      whole_in_body head bytes fed body.content body.part k
          (subst P whole is),
    )
reports_in_body head bytes fed body k false e opened is =
    not_yet_in_body head bytes fed body k opened (sym e) is

pub reports_at : (p : Progress) (bytes : List ℕ) → IsSound p → fault_in p ≡ None → Holds p bytes
    → Reports bytes (Ok (is_done p))
reports_at (in_head head) bytes sound fine h = not_yet_in_head head bytes sound.0 h
reports_at (in_body head body) bytes sound fine h =
    reports_in_body head bytes h.1 body h.0 (is_whole body.phase) refl sound.1 h.2
reports_at (failed e) bytes sound fine h = absurd cc

-- ---- from a head on

-- the piece is the rest of the head, and what is behind it
split : (part text piece bytes : List ℕ) (n : ℕ) → part ++ take n piece ≡ text → bytes ≡ part
    → text ++ drop n piece ≡ bytes ++ piece
split part text piece bytes n front is =
    ap (λ s. s ++ drop n piece) (sym front) ∙ append_assoc part (take n piece) (drop n piece)
    ∙ ap (λ s. part ++ s) (take-append-drop n piece) ∙ ap (λ s. s ++ piece) (sym is)

pub into_body : (part text piece : List ℕ) (n : ℕ) (w : Framing) (first new : BodyState)
    → EndsHead part text piece n w → Starts w first → Reaches first new (drop n piece)
    → Advances (in_head part) (in_body text new) piece (is_whole new.phase)
into_body part text piece n w first new ends starts reaches =
    let goes = goes_on_behind text first new (drop n piece) ends.short reaches in
    let P : List ℕ → Type 0 = λ s. Holds (in_body text new) s in
    record {
      sound = goes.sound;
      fine = refl;
      done_is = refl;
      holds = λ bytes h. subst P (split part text piece bytes n ends.front h)
          (goes.holds text (
            ends.head,
            [],
            nothing_fed text text ends.head w first refl ends.short
                ends.at ends.framed starts,
          ));
      less = λ e. omega (
        arith,
        reaches.less e,
        starts.less,
        ap length ends.front,
        length-append
            part (take n piece),
        length-take n piece,
        length-drop n piece,
        ends.within,
        ends.short,
      );
    }

pub stops_behind : (e : HttpFault) (part text piece : List ℕ) (n : ℕ) (w : Framing)
    (first : BodyState) → EndsHead part text piece n w → Starts w first
    → Refuses e first (drop n piece) → Stops (in_head part) piece e
stops_behind e part text piece n w first ends starts refuses bytes h =
    let P : List ℕ → Type 0 = λ s. Fails e s in
    subst P (split part text piece bytes n ends.front h)
    (stops_body e text first (drop n piece) refuses text (
      ends.head,
      [],
      nothing_fed text text ends.head w first refl ends.short ends.at
          ends.framed starts,
    ))

-- ---- before the first byte, and at an answer

target_is_ascii : IsAscii (47 ∷ [])
target_is_ascii zero = omega arith
target_is_ascii (suc i) = omega arith

letter_is_token : is_token_byte 65 ≡ true
unfolding is_token_byte
letter_is_token = refl

abbrev first_head : RequestHead
first_head = record {
  blank = [];
  method = 65 ∷ [];
  target = 47 ∷ [];
  minor = 0;
  line_end =
      lf;
  fields = [];
  last = lf;
}

-- any head may follow where there is no byte of one
head_may_come : MayBecomeRequest []
head_may_come =
    inl (
      print_request first_head,
      first_head,
      (
        record {
          method = (
            omega arith,
            All-cons (λ b. is_token_byte b ≡ true) 65 [] letter_is_token
                (All-nil _),
          );
          target = (omega arith, All-cons (λ b. is_uri_byte b ≡ true) 47 [] refl (All-nil _));
          target_text = IsUtf8-from_ascii (47 ∷ []) target_is_ascii;
          minor = omega arith;
          fields = All-nil _;
        },
        sym (append-nil (print_request first_head)),
      ),
    )

pub start_is_sound : IsSound start
start_is_sound = (
  λ k rest r. omega
      (arith, ap length r.1, length-append (print_request k) rest, no_bytes k),
  omega arith,
  head_may_come,
)

pub reports_of : (r : Result Bool HttpFault) (old new : Progress) (piece bytes : List ℕ)
    → IfOk r (Advances old new piece) → IfErr r (Stops old piece) → Holds old bytes
    → Reports (bytes ++ piece) r
reports_of (Err e) old new piece bytes ok err h = err bytes h
reports_of (Ok done) old new piece bytes ok err h =
    let P : Bool → Type 0 = λ b. Reports (bytes ++ piece) (Ok b) in
    subst P (sym ok.done_is)
    (reports_at new (bytes ++ piece) ok.sound ok.fine (ok.holds bytes h))

-- ---- a decoder by the bytes that it was fed

-- a message that was fed is whole
pub whole_there : (p : Progress) (bytes : List ℕ) (m : Message) → IsSound p → fault_in p ≡ None
    → Holds p bytes → BeginsWith bytes m → is_done p ≡ true
whole_there p bytes m sound fine h b = by_answer (is_done p) refl (reports_at p bytes sound fine h)
  where
    by_answer : (done : Bool) → is_done p ≡ done → Reports bytes (Ok done) → is_done p ≡ true
    by_answer true is t = is
    by_answer false is t = absurd (t b.0 (Some b.1) b.2)

-- ---- a body by what its feeding answered

pub advance_in_body : (r : Result Bool HttpFault) (head : List ℕ) (old new : BodyState)
    (piece : List ℕ) → length head ≤ 16384
    → IfOk r (λ done. Reaches old new piece × (done ≡ is_whole new.phase))
    → IfOk r (Advances (in_body head old) (in_body head new) piece)
advance_in_body (Ok done) head old new piece short ok = let P : Bool → Type 0 =
    λ b. Advances (in_body head old) (in_body head new) piece b in
    subst P (sym ok.1) (goes_on_behind head old new piece short ok.0)
advance_in_body (Err e) head old new piece short ok = tt

pub stop_in_body : (r : Result Bool HttpFault) (head : List ℕ) (old : BodyState) (piece : List ℕ)
    → IfErr r (λ e. Refuses e old piece) → IfErr r (Stops (in_body head old) piece)
stop_in_body (Ok done) head old piece refuses = tt
stop_in_body (Err e) head old piece refuses = stops_body e head old piece refuses

pub begin_body : (part text piece : List ℕ) (n : ℕ) (w : Framing) (first new : BodyState)
    (done : Bool) → EndsHead part text piece n w → Starts w first → Reaches first new (drop n piece)
    → done ≡ is_whole new.phase → Advances (in_head part) (in_body text new) piece done
begin_body part text piece n w first new done ends starts reaches is = let P : Bool → Type 0 =
    λ b. Advances (in_head part) (in_body text new) piece b in
    subst P (sym is) (into_body part text piece n w first new ends starts reaches)

pub some_fed : (head : List ℕ) (body : BodyState) → ¬ (Holds (in_body head body) [])
some_fed head body h = some_bytes [] h.1 h.0 (head_behind head [] h.1 body h.0 h.2) refl
