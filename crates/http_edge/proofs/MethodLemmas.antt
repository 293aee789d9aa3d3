-- A method of a head is a method of `http`: the two crates have one rule for a token.
use Rattle.std.proofs.Common.{◌≡◌, ℕ, List, refl, sym, subst}
use Rattle.std.specs.Prelude.{IsTrue, Bool}
use Rattle.http_header.specs.Token as http
use Rattle.httparse.specs.Grammar as head
use Rattle.httparse.specs.Spans.{span_bytes}
use Rattle.httparse.specs.declared.spans.HeaderSpan.{HeaderSpan}
use Rattle.httparse.specs.declared.spans.RequestSpans.{RequestSpans}
use Rattle.http_edge.specs.inner.Head.{FindsHead}

same_byte : (b : ℕ) → head.is_token_byte b ≡ http.is_token_byte b
unfolding head.is_token_byte http.is_token_byte
same_byte b = refl

same_token : (s : List ℕ) → head.IsToken s → http.IsToken s
same_token s is = (
  is.0,
  λ k d within. let P : Bool → Type 0 = λ b. IsTrue b in
      subst P (same_byte _) (is.1 k d within),
)

pub method_is_token : (buf : List ℕ) (spans : List HeaderSpan) (r : RequestSpans)
    (k : head.RequestHead) → FindsHead buf spans r k → http.IsToken (span_bytes buf r.method)
method_is_token buf spans r k found =
    subst http.IsToken (sym found.at.method) (same_token k.method found.at.reads.0.method)
