-- Fronts of lists that are equal.
use Rattle.std.proofs.Common.{◌≡◌, ℕ, ◌-◌, ◌<◌, ◌≤◌, arith, List, ◌++◌, length, drop, take, refl}
use Rattle.std.proofs.Common.{sym, ap, ◌∙◌, append_assoc}
use Rattle.std.proofs.lemmas.List.{take-append-le, take_at, drop_at, take-append-drop}
use Rattle.std.proofs.lemmas.List.{append_cancel_left, take-take, length-take-le, length-append}
use Rattle.std.proofs.lemmas.List.{length-drop}

-- a front that is no longer than the list
pub front_of : (a more p after : List ℕ) → a ++ more ≡ p ++ after → length p ≤ length a
    → a ≡ p ++ drop (length p) a
front_of a more p after e short =
    let same : take (length p) a ≡ p =
    sym (take-append-le (length p) a more short) ∙ ap (take (length p)) e
    ∙ take_at p after (length p) refl in
    sym (take-append-drop (length p) a) ∙ ap (λ x. x ++ drop (length p) a) same

-- the rest of a list whose front is known
pub rest_of : (p after a more : List ℕ) → p ++ after ≡ a ++ more → length p ≤ length a
    → after ≡ drop (length p) a ++ more
rest_of p after a more e short =
    append_cancel_left p after (drop (length p) a ++ more)
    (e ∙ ap (λ x. x ++ more) (front_of a more p after (sym e) short)
    ∙ append_assoc p (drop (length p) a) more)

-- what is behind equal lists of one length
pub behind_same : (a b x y : List ℕ) → length a ≡ length b → a ++ x ≡ b ++ y → (a ≡ b) × (x ≡ y)
behind_same a b x y len e = (
  sym (take_at a x (length b) len) ∙ ap (take (length b)) e
      ∙ take_at b y (length b) refl,
  sym (drop_at a x (length b) len) ∙ ap (drop (length b)) e
      ∙ drop_at b y (length b) refl,
)

not_within : (p q : List ℕ) → ¬ (length p ≤ length q) → length q < length p
not_within p q h = omega (arith, h)

-- how much of a piece is of a text that ends in it
pub record EndsIn (part piece text : List ℕ) (had n len : ℕ) : Type 0 where
  pub some : had < len
  pub within : len - had ≤ n
  pub front : part ++ take (len - had) piece ≡ text

-- a text that the part so far does not begin with ends in the piece
pub text_taken : (part piece text rest : List ℕ) (had n len : ℕ) → had ≡ length part
    → len ≡ length text → n ≤ length piece → part ++ take n piece ≡ text ++ rest
    → ((after : List ℕ) → ¬ (part ≡ text ++ after)) → EndsIn part piece text had n len
text_taken part piece text rest had n len had_is len_is within e none =
    let u = take n piece in
    let longer : length part < length text =
    not_within text part
    (λ short. none (drop (length text) part) (front_of part u text rest e short)) in
    let tail = drop (length part) text in
    let behind : u ≡ tail ++ rest = rest_of part u text rest e (omega arith) in
    let front : text ≡ part ++ tail = front_of text rest part u (sym e) (omega arith) in
    let tail_len : length tail ≡ len - had =
    omega (arith, length-drop (length part) text, len_is, had_is) in
    let fits : len - had ≤ n = omega (
      arith,
      ap length behind,
      length-append tail rest,
      tail_len,
      length-take-le n piece within,
    ) in
    let taken : take (len - had) piece ≡ tail =
    sym (take-take (len - had) n piece fits) ∙ ap (take (len - had)) behind
    ∙ take_at tail rest (len - had) tail_len in
    record {
      some = omega (arith, longer, len_is, had_is);
      within = fits;
      front =
          ap (λ s. part ++ s) taken ∙ sym front;
    }
