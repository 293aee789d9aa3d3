-- Whether parts go beyond what their books hold pending, one book after the other.
use Rattle.std.proofs.Common.{◌≡◌, ℕ, ◌+◌, ◌<◌, ◌≤◌, true, false, List, Option, length, get_or, sym}
use Rattle.std.proofs.Common.{subst, ◌∙◌, ap, arith, inl, inr, ◌⊎◌}
use Rattle.std.proofs.lemmas.List.{get_or_default}
use Rattle.delta_book.specs.Journal.{Journal}
use Rattle.std.proofs.lemmas.Bool.{cases_eq}
use Rattle.book_desk.specs.declared.part.Part.{Part}
use Rattle.book_desk.specs.Crossings.{crosses, NoneCrosses, IsCrossing}

-- a book and its part
pair_at : (stretch : ℕ) (books : List Journal) (parts : List (Option Part)) (i : ℕ) (b d : Journal)
    (q e : Option Part) → i < length books → i < length parts → b ≡ get_or books i b
    → q ≡ get_or parts i q
    → crosses stretch (get_or books i d) (get_or parts i e) ≡ crosses stretch b q
pair_at stretch books parts i b d q e l m f g =
    ap (λ (x : Journal). crosses stretch x (get_or parts i e))
    (get_or_default books i d b l ∙ sym f)
    ∙ ap (λ (p : Option Part). crosses stretch b p) (get_or_default parts i e q m ∙ sym g)

pub none_more : (stretch : ℕ) (books : List Journal) (parts : List (Option Part)) (first i : ℕ)
    (b : Journal) (q : Option Part) → i < length books → i < length parts → b ≡ get_or books i b
    → q ≡ get_or parts i q → NoneCrosses stretch books parts first i
    → crosses stretch b q ≡ false → NoneCrosses stretch books parts first (i + 1)
none_more stretch books parts first i b q l m f g h n = λ k d e u v. at k d e u v (cases_eq k i)
  where
    at : (k : ℕ) (d : Journal) (e : Option Part) → first ≤ k → k < i + 1 → (k ≡ i) ⊎ (k ≡ i → ⊥)
        → crosses stretch (get_or books k d) (get_or parts k e) ≡ false
    at k d e u v (inl c) = subst (λ (j : ℕ). crosses stretch (get_or books j d) (get_or parts j e)
        ≡ false) (sym c) (pair_at stretch books parts i b d q e l m f g ∙ n)
    at k d e u v (inr c) = h k d e u (omega arith)

pub crossing : (stretch : ℕ) (books : List Journal) (parts : List (Option Part)) (first i : ℕ)
    (b : Journal) (q : Option Part) → first ≤ i → i < length books → i < length parts
    → b ≡ get_or books i b → q ≡ get_or parts i q → NoneCrosses stretch books parts first i
    → crosses stretch b q ≡ true → IsCrossing stretch books parts first i
crossing stretch books parts first i b q o l m f g h n = record {
  from = o;
  found = l;
  before = h;
  crossed = λ d e. pair_at stretch books parts i b d q e l m f g ∙ n;
}
