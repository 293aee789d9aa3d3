-- What an answer about a request rules out.
use Rattle.std.proofs.Common.{◌≡◌, ◌≢◌, ℕ, List, [], ◌++◌, Option, Some, None, Ok, Err, inl, inr}
use Rattle.std.proofs.Common.{sym, ap, subst, ◌∙◌}
use Rattle.std.specs.Prelude.{Result, ◌⊎◌}
use Rattle.std.proofs.lemmas.List.{append-nil}
use Rattle.httparse.specs.Grammar.{RequestHead}
use Rattle.httparse.proofs.GrammarLemmas.{request_unique}
use Rattle.http_edge.specs.declared.fault.HttpFault.{HttpFault}
use Rattle.http_edge.specs.declared.fault.HttpFault.TheVariants.{Closed, BadHead, TooManyHeaders}
use Rattle.http_edge.specs.declared.fault.HttpFault.TheVariants.{HeadTooLong, BadLength}
use Rattle.http_edge.specs.declared.fault.HttpFault.TheVariants.{BodyTooLong, BadChunk, Truncated}
use Rattle.http_edge.specs.declared.fault.HttpFault.TheVariants.{Io, NoMemory}
use Rattle.http_edge.specs.declared.framing.Framing.{Framing}
use Rattle.http_edge.specs.declared.request.Request.{Request}
use Rattle.http_edge.specs.Form.{IsAnswer}
use Rattle.http_edge.specs.Message.{Message, IsHeadAt}
use Rattle.http_edge.specs.Reading.{HasBody, framing_in, BeginsWith, IsTooLong, NotYet}
use Rattle.http_edge.specs.Request.{message_in}
use Rattle.http_edge.specs.Answer.{Explains, request_form, Fails, ReportsTooLong}
use Rattle.http_edge.specs.Delivery.{Says, ReportsSize}
use Rattle.http_edge.proofs.HeadLemmas.{NeverHead, never_bad, never_few, never_short}
use Rattle.http_edge.proofs.FaultLemmas.{begins-append, fails_more}
use Rattle.http_edge.proofs.FormLemmas as form
use Rattle.http_edge.proofs.FormLemmas.{IsSilent, Laws}
use Rattle.http_edge.proofs.MachineLemmas.{some_bytes}
use Rattle.http_edge.proofs.Unique.{one_message, not_both}

headless : (bytes : List ℕ) → NeverHead bytes → NotYet bytes
headless bytes never k o r = let P : List ℕ → Type 0 = λ s. IsHeadAt s k r.0 in
    never [] k r.0 (subst P (sym (append-nil bytes)) r.1.at)

unframed : (bytes after : List ℕ) (k : RequestHead) → IsHeadAt bytes k after → framing_in k ≡ None
    → NotYet bytes
unframed bytes after k is none j o r =
    let same = request_unique bytes k j after r.0 is.reads r.1.at.reads in
    let P : Option Framing → Type 0 = λ f. HasBody f r.0 o in
    subst P (ap framing_in (sym same.0) ∙ none) r.1.has

silent : (e : HttpFault) (bytes : List ℕ) → IsSilent e → Explains e bytes → NotYet bytes
silent Closed bytes is x = λ k o r. some_bytes bytes r.0 k r.1.at x
silent BadHead bytes is x = headless bytes (never_bad bytes x)
silent TooManyHeaders bytes is x = headless bytes (never_few bytes x)
silent HeadTooLong bytes is x = headless bytes (never_short bytes x)
silent BadLength bytes is x = unframed bytes x.1 x.0 x.2 x.3
silent BadChunk bytes is x = subst NotYet (append-nil bytes) (x.4 [])
silent Truncated bytes is x = x.1
silent Io bytes is x = absurd x
silent e bytes is x = absurd is

-- a message has a byte
pub message_has_bytes : (bytes : List ℕ) (m : Message) → BeginsWith bytes m → bytes ≢ []
message_has_bytes bytes m b = some_bytes bytes b.2.0 b.0 b.2.1.at

pub size_has_bytes : (bytes : List ℕ) → IsTooLong bytes → bytes ≢ []
size_has_bytes bytes t = some_bytes bytes t.1.0 t.0 t.1.1.at

pub request_laws : Laws Message Request request_form
request_laws = record {
  unique = one_message;
  exclusive = λ bytes m b none. none b.0 (Some b.1) b.2;
  silent = silent;
  sized = not_both;
  some = message_has_bytes;
  some_sized = size_has_bytes;
  memory = λ bytes. tt;
}

-- ---- what is answered

size_or_memory : (e : HttpFault) (bytes : List ℕ)
    → (e ≡ NoMemory) ⊎ ((e ≡ BodyTooLong) ⊎ IsSilent e) → Explains e bytes → IsTooLong bytes
    → (e ≡ BodyTooLong) ⊎ (e ≡ NoMemory)
size_or_memory e bytes (inl is) x t = inr is
size_or_memory e bytes (inr (inl is)) x t = inl is
size_or_memory e bytes (inr (inr is)) x t = absurd (silent e bytes is x t.0 None t.1)

pub reports_too_long : (bytes : List ℕ) (r : Result Request HttpFault)
    → IsAnswer request_form bytes r → IsTooLong bytes → ReportsTooLong r
reports_too_long bytes (Ok r) x t = not_both bytes (message_in r) x t
reports_too_long bytes (Err e) x t = size_or_memory e bytes (form.sort e) x t

-- what is answered of bytes that begin with a message is answered of more bytes
pub answers_later : (r : Result Request HttpFault) (bytes more : List ℕ) (m : Message)
    → BeginsWith bytes m → IsAnswer request_form bytes r → IsAnswer request_form (bytes ++ more) r
answers_later (Ok r) bytes more m b x = begins-append bytes more (message_in r) x
answers_later (Err e) bytes more m b x = let P : HttpFault → Type 0 =
    λ f. Explains f (bytes ++ more) in
    subst P (sym (form.only_memory request_form request_laws e bytes m x b)) tt

-- a fault that lasts leaves no message, whatever follows
pub fault_lasts : (e : HttpFault) (bytes more : List ℕ) (m : Message) → Fails e bytes
    → BeginsWith (bytes ++ more) m → e ≡ NoMemory
fault_lasts e bytes more m f b =
    form.only_memory request_form request_laws e (bytes ++ more) m (fails_more e bytes more f).1 b

-- ---- what a reading says

pub reports_size : (bytes : List ℕ) (r : Result Request HttpFault) → Says bytes r
    → ReportsSize bytes r
reports_size bytes r x t = elim (form.answer_said request_form request_laws r bytes x)
    [ inl io ↦ inl io | inr a ↦ inr (reports_too_long bytes r a t) ]
