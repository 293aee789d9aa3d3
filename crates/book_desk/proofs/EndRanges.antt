-- The range of ends, one end and one part after the other.
use Rattle.std.proofs.Common.{◌≡◌, ℕ, ◌<◌, ◌≤◌, List, [], ◌∷◌, ◌++◌, Option, Some, None, IfSome}
use Rattle.std.proofs.Common.{IfNone, map, min, max, refl, sym, subst, ap, ◌∙◌, arith, zero, suc}
use Rattle.std.proofs.Common.{append_assoc, inl, inr, ◌⊎◌}
use Rattle.std.specs.Prelude.{fold}
use Rattle.std.specs.List.{All, Contains, flat_map}
use Rattle.std.proofs.lemmas.List.{append-nil, map-append}
use Rattle.std.proofs.lemmas.List.Elements.{All-append, All-weaker, Contains-append_left}
use Rattle.std.proofs.lemmas.List.Elements.{Contains-append_right}
use Rattle.metric_events.specs.DataPoint.{DataPoint}
use Rattle.book_desk.specs.declared.end_range.EndRange.{EndRange}
use Rattle.book_desk.specs.declared.part.Part.{Part}
use Rattle.book_desk.specs.EndRanges.{IsRangeOf, end_of, ends_of}
use Rattle.book_desk.specs.Splits.{points_in}
use Rattle.book_desk.specs.inner.EndRanges.{with_end, with_point, with_part}

-- the range is that of these ends; none of no ends
abbrev Says : Option EndRange → List ℕ → Type 0
Says None ends = ends ≡ []
Says (Some range) ends = IsRangeOf ends range

all_one : (P : ℕ → Type 0) (x : ℕ) → P x → All P (x ∷ [])
all_one P x h zero d l = h
all_one P x h (suc k) d l = absurd (omega arith)

has_one : (x : ℕ) → Contains (x ∷ []) x
has_one x = (0, omega arith, refl)

least_is : (xs : List ℕ) (m e : ℕ) → Contains xs m → (m ≤ e) ⊎ (e < m)
    → Contains (xs ++ e ∷ []) (min m e)
least_is xs m e h (inl l) = subst (λ (n : ℕ). Contains (xs ++ e ∷ []) n) (omega arith)
    (Contains-append_left xs (e ∷ []) m h)
least_is xs m e h (inr l) = subst (λ (n : ℕ). Contains (xs ++ e ∷ []) n) (omega arith)
    (Contains-append_right xs (e ∷ []) e (has_one e))

greatest_is : (xs : List ℕ) (m e : ℕ) → Contains xs m → (e ≤ m) ⊎ (m < e)
    → Contains (xs ++ e ∷ []) (max m e)
greatest_is xs m e h (inl l) = subst (λ (n : ℕ). Contains (xs ++ e ∷ []) n) (omega arith)
    (Contains-append_left xs (e ∷ []) m h)
greatest_is xs m e h (inr l) = subst (λ (n : ℕ). Contains (xs ++ e ∷ []) n) (omega arith)
    (Contains-append_right xs (e ∷ []) e (has_one e))

order : (m n : ℕ) → (m ≤ n) ⊎ (n < m)
order zero n = inl (omega arith)
order (suc m) zero = inr (omega arith)
order (suc m) (suc n) = next (order m n)
  where
    next : (m ≤ n) ⊎ (n < m) → (suc m ≤ suc n) ⊎ (suc n < suc m)
    next (inl l) = inl (omega arith)
    next (inr l) = inr (omega arith)

one : (xs : List ℕ) (e : ℕ) → xs ≡ []
    → IsRangeOf (xs ++ e ∷ []) (record { least = e; greatest = e })
one [] e h = record {
  least = has_one e;
  none_before = all_one (λ x. e ≤ x) e (omega arith);
  greatest = has_one e;
  none_after = all_one (λ x. x ≤ e) e (omega arith);
}
one (x ∷ xs) e h = absurd (cc)

-- one end more
more : (o : Option EndRange) (xs : List ℕ) (e : ℕ) → Says o xs → Says (with_end o e) (xs ++ e ∷ [])
more None xs e h = one xs e h
more (Some r) xs e h = record {
  least = least_is xs r.least e h.least (order r.least e);
  none_before = All-append (λ x. min r.least e ≤ x) xs (e ∷ [])
      (All-weaker (λ x. r.least ≤ x) (λ x. min r.least e ≤ x) (λ x l. omega arith) xs h.none_before)
      (all_one (λ x. min r.least e ≤ x) e (omega arith));
  greatest = greatest_is xs r.greatest e h.greatest (order e r.greatest);
  none_after = All-append (λ x. x ≤ max r.greatest e) xs (e ∷ [])
      (All-weaker (λ x. x ≤ r.greatest) (λ x. x ≤ max r.greatest e) (λ x l. omega arith) xs
      h.none_after) (all_one (λ x. x ≤ max r.greatest e) e (omega arith));
}

-- the points of one part more
more_points : (ps : List DataPoint) (o : Option EndRange) (xs : List ℕ) → Says o xs
    → Says (fold with_point o ps) (xs ++ map end_of ps)
more_points [] o xs h = subst (λ (ys : List ℕ). Says o ys) (sym (append-nil xs)) h
more_points (p ∷ ps) o xs h = subst (λ (ys : List ℕ). Says (fold with_point (with_point o p) ps) ys)
    (append_assoc xs (end_of p ∷ []) (map end_of ps))
    (more_points ps (with_point o p) (xs ++ end_of p ∷ []) (more o xs (end_of p) h))

-- all parts
more_parts : (parts : List (Option Part)) (o : Option EndRange) (xs : List ℕ) → Says o xs
    → Says (fold with_part o parts) (xs ++ ends_of parts)
more_parts [] o xs h = subst (λ (ys : List ℕ). Says o ys) (sym (append-nil xs)) h
more_parts (part ∷ parts) o xs h =
    subst (λ (ys : List ℕ). Says (fold with_part (with_part o part) parts) ys)
    (append_assoc xs (map end_of (points_in part)) (ends_of parts)
    ∙ ap (λ (ys : List ℕ). xs ++ ys)
    (sym (map-append end_of (points_in part) (flat_map points_in parts))))
    (more_parts parts (with_part o part) (xs ++ map end_of (points_in part))
    (more_points (points_in part) o xs h))

pub range_some : (o : Option EndRange) (parts : List (Option Part)) → o ≡ fold with_part None parts
    → IfSome o (λ r. IsRangeOf (ends_of parts) r)
range_some o parts e = some o (subst (λ (q : Option EndRange). Says q (ends_of parts)) (sym e)
    (more_parts parts None [] refl))
  where
    some : (o : Option EndRange) → Says o (ends_of parts)
        → IfSome o (λ r. IsRangeOf (ends_of parts) r)
    some None h = tt
    some (Some r) h = h

pub range_none : (o : Option EndRange) (parts : List (Option Part)) → o ≡ fold with_part None parts
    → IfNone o (ends_of parts ≡ [])
range_none o parts e = none o (subst (λ (q : Option EndRange). Says q (ends_of parts)) (sym e)
    (more_parts parts None [] refl))
  where
    none : (o : Option EndRange) → Says o (ends_of parts) → IfNone o (ends_of parts ≡ [])
    none None h = h
    none (Some r) h = tt
