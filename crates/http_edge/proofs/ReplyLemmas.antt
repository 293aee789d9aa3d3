-- The head of a response that is being read.
use Rattle.std.proofs.Common.{◌≡◌, ℕ, ◌+◌, ◌<◌, ◌≤◌, true, false, List, [], ◌∷◌, ◌++◌, length, map}
use Rattle.std.proofs.Common.{take, drop, get_or, Option, Some, None, refl, sym, ap, subst, ◌∙◌}
use Rattle.std.proofs.Common.{arith, append_assoc}
use Rattle.std.specs.Prelude.{codes, Result, Ok, Err, IfSome}
use lib.Seq.{take-append-add}
use borrow.Rule.Slice.PartMut.{put_mid}
use Rattle.std.proofs.lemmas.Slice.{take-put_mid}
use Rattle.std.specs.Char.{is_ascii_digit}
use Rattle.std.proofs.lemmas.List.Elements.{All-cons, All-nil}
use Rattle.std.proofs.lemmas.List.{length-append, append-nil, take-append-drop, map-append}
use Rattle.std.proofs.lemmas.List.{length-map, length-take-le, take-take}
use Rattle.std.specs.Io.KnownBytes.{Consumes}
use Rattle.std.proofs.KnownBytes.{Consumes-nil, Consumes-trans}
use Rattle.httparse.specs.Grammar.{ResponseHead, print_response, ReadsResponse, HasNoResponse}
use Rattle.httparse.specs.Grammar.{MayBecomeResponse, lf}
use Rattle.httparse.specs.declared.spans.HeaderSpan.{HeaderSpan}
use Rattle.httparse.specs.declared.spans.ResponseSpans.{ResponseSpans}
use Rattle.httparse.specs.Spans.{header_bytes, name_and_value, IsSectionWithin}
use Rattle.httparse.specs.Spans.{IsResponseAt as IsResponseIn}
use Rattle.httparse.proofs.GrammarLemmas.{ReadsResponse-append, response_unique}
use Rattle.http_edge.specs.declared.fault.HttpFault.{HttpFault}
use Rattle.http_edge.specs.declared.fault.HttpFault.TheVariants.{Closed, BadHead, TooManyHeaders}
use Rattle.http_edge.specs.declared.fault.HttpFault.TheVariants.{HeadTooLong, Truncated, NoMemory}
use Rattle.http_edge.specs.declared.reply.Reply.{Reply}
use Rattle.http_edge.specs.Delivery.{StopsReading}
use Rattle.http_edge.specs.Message.{Header}
use Rattle.http_edge.specs.Framing.{is_named, values_of}
use Rattle.http_edge.specs.Reply.{ReplyHead, first_of, reply_of, BeginsWithReply, NoReply}
use Rattle.http_edge.specs.Reply.{IsReplyOpen, ExplainsReply, reply_form, SaysReply}
use Rattle.http_edge.specs.Form.{IsAnswer, IsClosed, FaultSays, IsLasting}
use Rattle.http_edge.specs.inner.Reply.{IsRead}
use Rattle.http_edge.proofs.FormLemmas.{IsSilent, Laws, says, known_front, not_empty, said_of_front}
use Rattle.http_edge.proofs.SourceLemmas.{stops}
use Rattle.http_edge.proofs.FieldLemmas.{values_of-append, values_of_more}
use Rattle.http_edge.proofs.ListLemmas.{front_of}
use Rattle.http_edge.proofs.HeadLemmas.{long_or_front}

nothing : (k : ResponseHead) → 0 < length (print_response k)
unfolding print_response
nothing k = simp length-append (omega arith)

some_bytes : (bytes after : List ℕ) (k : ResponseHead) → ReadsResponse bytes k after
    → 0 < length bytes
some_bytes bytes after k r =
    omega (arith, ap length r.1, length-append (print_response k) after, nothing k)

pub none_at_first : HasNoResponse []
none_at_first k after r = omega (arith, some_bytes [] after k r)

abbrev first_reply : ResponseHead
first_reply = record {
  blank = [];
  minor = 0;
  digits = 50 ∷ 48 ∷ 48 ∷ [];
  reason = None;
  line_end =
      lf;
  fields = [];
  last = lf;
}

-- any head may follow where there is no byte of one
reply_may_come : MayBecomeResponse []
reply_may_come =
    let P : ℕ → Type 0 = λ b. is_ascii_digit b ≡ true in (
      print_response first_reply,
      first_reply,
      (
        record {
          minor = omega arith;
          digits = (
            refl,
            All-cons P 50 (48 ∷ 48 ∷ []) refl
                (All-cons P 48 (48 ∷ []) refl (All-cons P 48 [] refl (All-nil P))),
          );
          reason = All-nil _;
          fields = All-nil _;
        },
        sym (append-nil (print_response first_reply)),
      ),
    )

-- ---- a head that was found

pub long_head : (buf : List ℕ) → HasNoResponse buf → 16384 ≤ length buf
    → ExplainsReply HeadTooLong buf
long_head buf none long = (
  long,
  λ more k after reads.
      long_or_front (print_response k) buf long
      (λ short. none k (drop (length (print_response k)) buf)
      (reads.0, front_of buf more (print_response k) after reads.1 short)),
)

-- a head that the spans cover
pub begins_with_reply : (buf : List ℕ) (spans : List HeaderSpan) (r : ResponseSpans)
    (k : ResponseHead) (value : Option (List ℕ)) → IsResponseIn buf spans r k
    → IsSectionWithin buf spans r.len r.headers → length buf ≤ 16384 → length spans ≡ 64
    → value ≡ first_of (values_of (codes "retry-after")
    (map (header_bytes buf) (take r.headers spans)))
    → BeginsWithReply buf (record { status = r.code; retry_after = value })
begins_with_reply buf spans r k value in_ within short room is =
    let few : length k.fields ≡ r.headers =
    sym (length-map k.fields name_and_value) ∙ sym (ap length in_.fields)
    ∙ length-map (take r.headers spans) (header_bytes buf)
    ∙ length-take-le r.headers spans within.count_fits in
    let same : value ≡ first_of (values_of (codes "retry-after") (map name_and_value k.fields)) =
    is ∙ ap (λ hs. first_of (values_of (codes "retry-after") hs)) in_.fields in (
      k,
      drop r.len buf,
      record {
        reads = in_.reads;
        few =
            omega (arith, few, within.count_fits, room);
        short =
            omega (arith, in_.len, within.len_fits, short);
      },
      rw (in_.code, same) refl,
    )

-- ---- the first value

abbrev value_in : List ℕ → List ℕ → List HeaderSpan → List (List ℕ)
value_in name buf hs = values_of name (map (header_bytes buf) hs)

pub values_here : (name : List ℕ) (h : Header) → is_named name h ≡ true
    → values_of name (h ∷ []) ≡ h.1 ∷ []
unfolding values_of
values_here name h is = rw is refl

pub values_not_here : (name : List ℕ) (h : Header) → is_named name h ≡ false
    → values_of name (h ∷ []) ≡ []
unfolding values_of
values_not_here name h is = rw is refl

pub none_more : (name buf : List ℕ) (hs : List HeaderSpan) (i : ℕ) (d : HeaderSpan) → i < length hs
    → value_in name buf (take i hs) ≡ [] → is_named name (header_bytes buf (get_or hs i d)) ≡ false
    → value_in name buf (take (i + 1) hs) ≡ []
none_more name buf hs i d within none not =
    values_of_more name buf hs i d within
    ∙ ap (λ vs. vs ++ values_of name (header_bytes buf (get_or hs i d) ∷ [])) none
    ∙ values_not_here name (header_bytes buf (get_or hs i d)) not

pub first_here : (name buf : List ℕ) (hs : List HeaderSpan) (i : ℕ) (d : HeaderSpan) (v : List ℕ)
    → i < length hs → value_in name buf (take i hs) ≡ []
    → values_of name (header_bytes buf (get_or hs i d) ∷ []) ≡ v ∷ []
    → first_of (value_in name buf hs) ≡ Some v
first_here name buf hs i d v within none here =
    let f = header_bytes buf in
    let front : value_in name buf (take (i + 1) hs) ≡ v ∷ [] =
    values_of_more name buf hs i d within
    ∙ ap (λ vs. vs ++ values_of name (f (get_or hs i d) ∷ [])) none ∙ here in
    let whole : value_in name buf hs
    ≡ value_in name buf (take (i + 1) hs) ++ value_in name buf (drop (i + 1) hs) =
    ap (value_in name buf) (sym (take-append-drop (i + 1) hs))
    ∙ ap (values_of name) (map-append f (take (i + 1) hs) (drop (i + 1) hs))
    ∙ values_of-append name (map f (take (i + 1) hs)) (map f (drop (i + 1) hs)) in
    ap first_of (whole ∙ ap (λ vs. vs ++ value_in name buf (drop (i + 1) hs)) front)

-- ---- more bytes

pub begins-append : (buf more : List ℕ) (t : ReplyHead) → BeginsWithReply buf t
    → BeginsWithReply (buf ++ more) t
begins-append buf more t b = (
  b.0,
  b.1
      ++ more,
  record {
    reads = ReadsResponse-append buf b.0 b.1 more b.2.reads;
    few =
        b.2.few;
    short = b.2.short;
  },
  b.3,
)

later : (bytes more m : List ℕ) (k : ResponseHead) (rest : List ℕ)
    → ReadsResponse ((bytes ++ more) ++ m) k rest → ReadsResponse (bytes ++ (more ++ m)) k rest
later bytes more m k rest r =
    subst (λ (s : List ℕ). ReadsResponse s k rest) (append_assoc bytes more m) r

pub explains_more : (e : HttpFault) (bytes more : List ℕ) → IsLasting e → ExplainsReply e bytes
    → ExplainsReply e (bytes ++ more)
explains_more BadHead bytes more lasts is =
    λ m k rest r. is (more ++ m) k rest (later bytes more m k rest r)
explains_more TooManyHeaders bytes more lasts is =
    let x = is.1 in (
      λ m k rest r. is.0 (more ++ m) k rest (later bytes more m k rest r),
      (x.0, x.1 ++ more, ap (λ s. s ++ more) x.2 ∙ append_assoc x.0 x.1 more, x.3, x.4, x.5),
    )
explains_more HeadTooLong bytes more lasts is = (
  omega (arith, is.0, length-append bytes more),
  λ m k rest r. is.1 (more ++ m) k rest
      (later bytes more m k rest r),
)
explains_more Closed bytes more lasts is = absurd lasts
explains_more Truncated bytes more lasts is = absurd lasts
explains_more e bytes more lasts is = is

-- ---- what is answered

pub one_reply : (buf : List ℕ) (t u : ReplyHead) → BeginsWithReply buf t → BeginsWithReply buf u
    → t ≡ u
one_reply buf t u x y = let same = response_unique buf x.0 y.0 x.1 y.1 x.2.reads y.2.reads in
    x.3 ∙ ap reply_of same.0 ∙ sym y.3

never : (bytes : List ℕ) → ((k : ResponseHead) (after : List ℕ)
    → ReadsResponse (bytes ++ []) k after → length k.fields ≤ 64 → length (print_response k) ≤ 16384
    → ⊥) → NoReply bytes
never bytes none k after b = let P : List ℕ → Type 0 = λ s. ReadsResponse s k after in
    none k after (subst P (sym (append-nil bytes)) b.reads) b.few b.short

silent : (e : HttpFault) (bytes : List ℕ) → IsSilent e → ExplainsReply e bytes → NoReply bytes
silent Closed bytes is x k after b = omega (arith, some_bytes bytes after k b.reads, ap length x)
silent BadHead bytes is x k after b = never bytes (λ j rest r few short. x [] j rest r) k after b
silent TooManyHeaders bytes is x k after b =
    never bytes (λ j rest r few short. omega (arith, x.0 [] j rest r, few)) k after b
silent HeadTooLong bytes is x k after b =
    never bytes (λ j rest r few short. omega (arith, x.1 [] j rest r, short)) k after b
silent Truncated bytes is x k after b = x.1 k after b
silent NoMemory bytes is x k after b = is
silent e bytes is x k after b = x

pub reply_laws : Laws ReplyHead Reply reply_form
reply_laws = record {
  unique = one_reply;
  exclusive = λ bytes t b none. none b.0 b.1 b.2;
  silent = silent;
  sized = λ bytes t b x. x;
  some = λ bytes t b e. omega (arith, some_bytes bytes b.1 b.0 b.2.reads, ap length e);
  some_sized = λ bytes x. absurd x;
  memory = λ bytes. tt;
}

-- ---- what was kept

pub record HeadSoFar (old now : Option (List ℕ)) (kept : List ℕ) : Type 0 where
  pub known : Consumes old now kept
  pub none : HasNoResponse kept
  pub short : length kept < 16384
  pub unfinished : MayBecomeResponse kept

pub begins : (old : Option (List ℕ)) → HeadSoFar old old []
begins old = record {
  known = Consumes-nil old;
  none = none_at_first;
  short =
      omega arith;
  unfinished = reply_may_come;
}

pub stops_reply : (old now next : Option (List ℕ)) (given n : ℕ) (kept buf : List ℕ)
    → HeadSoFar old now kept → Consumes now next (take n buf) → n ≤ length buf → given ≡ n
    → StopsReading IsReplyOpen old next given
stops_reply old now next given n kept buf so took within is =
    stops IsReplyOpen old now next given n kept buf so.known took within is
    (so.none, so.short, so.unfinished)

-- a piece that was read behind the front of a buffer
pub front_put : (len n k : ℕ) (head buf : List ℕ) → len ≤ length head → n ≤ length buf
    → take (len + n) (put_mid len k head buf) ≡ take len head ++ take n buf
front_put len n k head buf room few =
    sym (take-take (len + n) (len + length buf) (put_mid len k head buf) (omega arith))
    ∙ ap (take (len + n)) (take-put_mid len k head buf (len + length buf) refl room)
    ∙ ap (λ m. take (m + n) (take len head ++ buf)) (sym (length-take-le len head room))
    ∙ take-append-add (take len head) buf n

-- no head yet behind one piece more
pub one_piece_more : (old now next : Option (List ℕ)) (kept piece new : List ℕ)
    → HeadSoFar old now kept → Consumes now next piece → new ≡ kept ++ piece → IsReplyOpen new
    → HeadSoFar old next new
one_piece_more old now next kept piece new so took is still = record {
  known = subst (Consumes old next) (sym is) (Consumes-trans old now next kept piece so.known took);
  none = still.0;
  short = still.1;
  unfinished = still.2;
}

-- what is said of all that was read
front_says : (old next : Option (List ℕ)) (new : List ℕ) (r : Result Reply HttpFault)
    → Consumes old next new → 0 < length new
    → ((more : List ℕ) → IsAnswer reply_form (new ++ more) r)
    → IfSome old (λ bytes. SaysReply bytes r)
front_says old next new r known some answers =
    let front = known_front old next new known in
    says reply_form reply_laws old r (said_of_front reply_form old new r front answers)
    (not_empty old new (IsClosed r) front some)

-- a fault that the bytes show that were read
pub fault_says : (old now next : Option (List ℕ)) (kept piece new : List ℕ) (e : HttpFault)
    → HeadSoFar old now kept → Consumes now next piece → new ≡ kept ++ piece → 0 < length piece
    → IsLasting e → ExplainsReply e new
    → IfSome old (FaultSays reply_form e)
fault_says old now next kept piece new e so took is some lasts explains =
    front_says old next new (Err e) (subst (Consumes old next) (sym is)
    (Consumes-trans old now next kept piece so.known took))
    (omega (arith, ap length is, length-append kept piece, some))
    (λ more. explains_more e new more lasts explains)

-- the head that was read is whole
pub read_some : (old next : Option (List ℕ)) (len : ℕ) (head : List ℕ) → IsRead old next len head
    → 0 < length (take len head)
read_some old next len head is = let b = is.begins.1 in some_bytes (take len head) b.1 b.0 b.2.reads

pub read_says : (old next : Option (List ℕ)) (len : ℕ) (head : List ℕ) (r : Result Reply HttpFault)
    → IsRead old next len head → ((more : List ℕ) → IsAnswer reply_form (take len head ++ more) r)
    → IfSome old (λ bytes. SaysReply bytes r)
read_says old next len head r is answers =
    front_says old next (take len head) r is.known (read_some old next len head is) answers

pub read_not_open : (old next : Option (List ℕ)) (len : ℕ) (head : List ℕ)
    → IsRead old next len head → IsReplyOpen (take len head) → ⊥
read_not_open old next len head is still = let b = is.begins.1 in still.0 b.0 b.1 b.2.reads
