-- Two lists with the same elements, and the stream of an identity.
use Rattle.std.proofs.Common.{◌≡◌, ℕ, ◌+◌, ◌<◌, ◌≤◌, List, ◌∷◌, drop, length, get_or, refl, ap, sym}
use Rattle.std.proofs.Common.{subst, ◌∙◌, arith}
use Rattle.std.proofs.lemmas.List.{drop_more}
use Rattle.std.proofs.Math.ListN.{drop_of_length-le}
use Rattle.series_id.specs.Identity.{Identity}
use Rattle.otlp_read.specs.Streams.{Stream, identity_in}
use Rattle.json_points.specs.inner.MetricViews.{stream_of}

-- one more element is the same
pub same_more : {A : Type 0} (xs ys : List A) (i : ℕ) (x y : A)
    → i < length xs → i < length ys → x ≡ get_or xs i x → y ≡ get_or ys i y → x ≡ y
    → (drop i xs ≡ drop i ys → xs ≡ ys) → drop (i + 1) xs ≡ drop (i + 1) ys → xs ≡ ys
same_more xs ys i x y within also that this same so_far rest =
    so_far (drop_more xs i x within ∙ ap (λ z. z ∷ drop (i + 1) xs) (sym that ∙ same ∙ this)
    ∙ ap (λ zs. get_or ys i y ∷ zs) rest ∙ sym (drop_more ys i y also))

-- both have ended
pub same_all : {A : Type 0} (xs ys : List A) (i : ℕ) → length xs ≤ i → length ys ≤ i
    → (drop i xs ≡ drop i ys → xs ≡ ys) → xs ≡ ys
same_all xs ys i ended also so_far =
    so_far (drop_of_length-le xs ended ∙ sym (drop_of_length-le ys also))

-- an identity is the one that its kind and attributes have in its stream
pub of_stream : (x : Identity) (stream : Stream) → stream_of x ≡ stream
    → identity_in stream x.kind x.attrs ≡ x
of_stream x stream is = subst (λ s. identity_in s x.kind x.attrs ≡ x) is refl
