-- Receipts beside one entry more.
use Rattle.std.proofs.Common.{◌≡◌, ℕ, suc, ◌+◌, ◌<◌, ◌≤◌, Bool, true, false, ◌==◌, List, [], ◌∷◌}
use Rattle.std.proofs.Common.{◌++◌, length, take, drop, get_or, set, inl, inr, refl, sym, ap, ◌∙◌}
use Rattle.std.proofs.Common.{arith}
use Rattle.std.specs.Prelude.{if◌then◌else◌}
use Rattle.std.specs.List.{All, Any}
use Rattle.std.proofs.lemmas.Bool.{eqb-true, eq-eqb, cases_eq}
use Rattle.std.proofs.lemmas.List.{take_more, drop_at, drop-drop, append_assoc, append-nil}
use Rattle.std.proofs.lemmas.List.{length_push, get_or-set_same, get_or-set_other}
use Rattle.metric_events.specs.declared.entry.Entry.{Entry}
use Rattle.shared_book.specs.declared.receipt.Receipt.{Receipt}
use Rattle.shared_book.specs.declared.seat.TheConstants.{MAX_SEATS}
use Rattle.shared_book.specs.Receipts.{SeatView, receipt_of, receipts_of}
use Rattle.shared_book.specs.inner.Receipts.{IsNext}
use Rattle.shared_book.specs.inner.Audits.{IsBegun, IsTallied}

-- the receipts that an entry at an index adds
abbrev added : ℕ → ℕ → Entry → List Receipt
added n index e = if e.seat == n then receipt_of index e.event ∷ [] else []

more_after : (b : Bool) (r : Receipt) (xs ys zs : List Receipt) → xs ≡ ys ++ zs
    → (if b then r ∷ xs else xs) ≡ (if b then r ∷ ys else ys) ++ zs
more_after true r xs ys zs e = ap (λ v. r ∷ v) e
more_after false r xs ys zs e = e

receipts_more : (n i : ℕ) (es : List Entry) (e : Entry)
    → receipts_of n i (es ++ e ∷ []) ≡ receipts_of n i es ++ added n (i + length es) e
receipts_more n i [] e = let z : i + 0 ≡ i = omega arith in rw z
receipts_more n i (x ∷ es) e =
    let z : i + 1 + length es ≡ i + suc (length es) = omega arith in
    let ih : receipts_of n (i + 1) (es ++ e ∷ [])
    ≡ receipts_of n (i + 1) es ++ added n (i + suc (length es)) e =
    rw z at (receipts_more n (i + 1) es e) in
    more_after (x.seat == n) (receipt_of i x.event) _ _ _ ih

-- the entries up to an index, and that one
pub one_more : (journal : List Entry) (index : ℕ) (e : Entry) → index < length journal
    → e ≡ get_or journal index e → take (index + 1) journal ≡ take index journal ++ e ∷ []
one_more journal index e within is =
    take_more journal index e within ∙ ap (λ v. take index journal ++ v ∷ []) (sym is)

-- what an entry adds to those before it
abbrev after : ℕ → List Entry → Entry → List Receipt
after n es e = added n (length es) e

receipts_after : (n : ℕ) (es : List Entry) (e : Entry)
    → receipts_of n 0 (es ++ e ∷ []) ≡ receipts_of n 0 es ++ after n es e
receipts_after n es e = let z : 0 + length es ≡ length es = omega arith in
    rw z at (receipts_more n 0 es e)

few_after : (b : Bool) (r : Receipt) (xs : List Receipt) (m : ℕ) → length xs ≤ m
    → length (if b then r ∷ xs else xs) ≤ suc m
few_after true r xs m h = omega arith
few_after false r xs m h = omega arith

-- no more receipts than entries
pub few_receipts : (n i : ℕ) (es : List Entry) → length (receipts_of n i es) ≤ length es
few_receipts n i [] = omega arith
few_receipts n i (x ∷ es) =
    few_after (x.seat == n) (receipt_of i x.event) _ _ (few_receipts n (i + 1) es)

-- what begins with these and has this next begins with these and this
begun_more : (receipts these rest : List Receipt) (r : Receipt) → receipts ≡ these ++ rest
    → IsNext receipts (length these) r
    → receipts ≡ (these ++ r ∷ []) ++ drop (length these + 1) receipts
begun_more receipts these rest r e next =
    let left : drop (length these) receipts ≡ rest =
    rw e (drop_at these rest (length these) refl) in
    rw append_assoc (e ∙ ap (λ v. these ++ v) (sym left ∙ next))

-- and the other way round
next_of_more : (receipts these rest : List Receipt) (r : Receipt)
    → receipts ≡ (these ++ r ∷ []) ++ rest → IsNext receipts (length these) r
next_of_more receipts these rest r e =
    let whole : receipts ≡ these ++ (r ∷ rest) = rw append_assoc at e in
    let left : drop (length these) receipts ≡ r ∷ rest =
    rw whole (drop_at these (r ∷ rest) (length these) refl) in
    let past : drop (length these + 1) receipts ≡ rest =
    sym (drop-drop 1 (length these) receipts) ∙ ap (drop 1) left in
    left ∙ ap (λ v. r ∷ v) (sym past)

-- a seat's receipts still begin so where it is not named, or has the entry's receipt next
abbrev IsNamedNext : List Entry → Entry → SeatView → Type 0
IsNamedNext es e t = t.number ≡ e.seat
    → IsNext t.receipts (length (receipts_of t.number 0 es)) (receipt_of (length es) e.event)

begins : (b : Bool) (es : List Entry) (e : Entry) (t : SeatView) (these rest : List Receipt)
    → (b ≡ true → IsNext t.receipts (length these) (receipt_of (length es) e.event))
    → t.receipts ≡ these ++ rest → (left : List Receipt)
    × (t.receipts
    ≡ (these ++ (if b then receipt_of (length es) e.event ∷ [] else [])) ++ left)
begins true es e t these rest next h =
    (drop (length these + 1) t.receipts, begun_more t.receipts these rest _ h (next refl))
begins false es e t these rest next h = (rest, rw append-nil h)

begun_after : (es : List Entry) (e : Entry) (t : SeatView) → IsNamedNext es e t → IsBegun es t
    → IsBegun (es ++ e ∷ []) t
begun_after es e t next h =
    rw (receipts_after t.number es e)
    (begins (e.seat == t.number) es e t (receipts_of t.number 0 es) h.0
    (λ b. next (sym (eqb-true _ _ b))) h.1)

begun_before : (es : List Entry) (e : Entry) (t : SeatView) → IsBegun (es ++ e ∷ []) t
    → IsBegun es t
begun_before es e t h = (
  after t.number es e ++ h.0,
  h.1 ∙ ap (λ v. v ++ h.0) (receipts_after t.number es e)
      ∙ append_assoc (receipts_of t.number 0 es) (after t.number es e) h.0,
)

named_own : (n : ℕ) (es : List Entry) (e : Entry) → e.seat ≡ n
    → after n es e ≡ receipt_of (length es) e.event ∷ []
named_own n es e is = let b : (e.seat == n) ≡ true = eq-eqb _ _ is in rw b

none_where : (b : Bool) (r : Receipt) → (b ≡ true → ⊥) → (if b then r ∷ [] else []) ≡ []
none_where true r never = absurd (never refl)
none_where false r never = refl

named_other : (n : ℕ) (es : List Entry) (e : Entry) → (e.seat ≡ n → ⊥) → after n es e ≡ []
named_other n es e never =
    none_where (e.seat == n) (receipt_of (length es) e.event) (λ b. never (eqb-true _ _ b))

-- how many receipts there are, with the entry
count_own : (n : ℕ) (es : List Entry) (e : Entry) → e.seat ≡ n
    → length (receipts_of n 0 (es ++ e ∷ [])) ≡ length (receipts_of n 0 es) + 1
count_own n es e is = ap length (receipts_after n es e
    ∙ ap (λ v. receipts_of n 0 es ++ v) (named_own n es e is))
    ∙ length_push (receipts_of n 0 es) (receipt_of (length es) e.event)

count_other : (n : ℕ) (es : List Entry) (e : Entry) → (e.seat ≡ n → ⊥)
    → length (receipts_of n 0 (es ++ e ∷ [])) ≡ length (receipts_of n 0 es)
count_other n es e never = ap length
    (receipts_after n es e ∙ ap (λ v. receipts_of n 0 es ++ v) (named_other n es e never)
    ∙ append-nil (receipts_of n 0 es))

not_begun : (es : List Entry) (e : Entry) (t : SeatView) → t.number ≡ e.seat
    → (IsNext t.receipts (length (receipts_of t.number 0 es)) (receipt_of (length es) e.event) → ⊥)
    → IsBegun (es ++ e ∷ []) t → ⊥
not_begun es e t is never h =
    never (next_of_more t.receipts (receipts_of t.number 0 es) h.0
    _ (h.1 ∙ ap (λ v. v ++ h.0) (receipts_after t.number es e
    ∙ ap (λ v. receipts_of t.number 0 es ++ v) (named_own t.number es e (sym is)))))

differs_after : (es : List Entry) (e : Entry) (seats : List SeatView)
    → Any (λ t. ¬ (IsBegun es t)) seats → Any (λ t. ¬ (IsBegun (es ++ e ∷ []) t)) seats
differs_after es e seats w = (w.0, w.1, w.2, w.3, λ b. w.4 (begun_before es e w.1 b))

-- after an entry that names no seat here
pub passed_over : (es : List Entry) (e : Entry) (seats : List SeatView) (named : List ℕ)
    (same : Bool) → MAX_SEATS ≤ e.seat → IsTallied es seats named same
    → IsTallied (es ++ e ∷ []) seats named same
passed_over es e seats named same far h = record {
  counted = λ n lt. h.counted n lt ∙ sym (count_other n es e (λ i. absurd (omega arith)));
  begun = λ s k d lt few. begun_after es e (get_or seats k d) (λ i. absurd (omega arith))
      (h.begun s k d lt few);
  differs = λ s. differs_after es e seats (h.differs s);
}

counted_after : (es : List Entry) (e : Entry) (named : List ℕ) → e.seat < length named
    → ((n : ℕ) → n < MAX_SEATS → get_or named n 0 ≡ length (receipts_of n 0 es)) → (n : ℕ)
    → n < MAX_SEATS → get_or (set named e.seat (get_or named e.seat 0 + 1)) n 0
    ≡ length (receipts_of n 0 (es ++ e ∷ []))
counted_after es e named within h n lt =
    elim (cases_eq n e.seat) [
      | inl is ↦ rw is (get_or-set_same named e.seat (get_or named e.seat 0 + 1) 0 within
          ∙ omega (arith, h e.seat (rw is at lt), count_own e.seat es e refl))
      | inr never ↦ get_or-set_other named e.seat n (get_or named e.seat 0 + 1) 0 never ∙ h n lt
          ∙ sym (count_other n es e (λ i. never (sym i)))
    ]

-- after an entry of a seat here, where nothing differed before it
pub compared : (es : List Entry) (e : Entry) (seats : List SeatView) (named : List ℕ) (same : Bool)
    → e.seat < length named → e.seat < MAX_SEATS → IsTallied es seats named true
    → (same ≡ true → All (λ t. t.number ≡ e.seat
    → IsNext t.receipts (get_or named e.seat 0) (receipt_of (length es) e.event)) seats)
    → (same ≡ false → Any (λ t. (t.number ≡ e.seat)
    × ¬ (IsNext t.receipts (get_or named e.seat 0) (receipt_of (length es) e.event))) seats)
    → IsTallied (es ++ e ∷ []) seats (set named e.seat (get_or named e.seat 0 + 1)) same
compared es e seats named same within few h all any = record {
  counted = counted_after es e named within h.counted;
  begun = λ s k d lt low. begun_after es e (get_or seats k d)
      (λ is. rw (is, ← h.counted e.seat few) (all s k d lt is)) (h.begun refl k d lt low);
  differs = λ s. let w = any s in (
    w.0,
    w.1,
    w.2,
    w.3,
    not_begun es e w.1 w.4.0
        (λ next. w.4.1 (rw (h.counted e.seat few, ← w.4.0) next)),
  );
}

-- after an entry of a seat here, where something differed before it
pub differed : (es : List Entry) (e : Entry) (seats : List SeatView) (named : List ℕ)
    → e.seat < length named → IsTallied es seats named false
    → IsTallied (es ++ e ∷ []) seats (set named e.seat (get_or named e.seat 0 + 1)) false
differed es e seats named within h = record {
  counted = counted_after es e named within h.counted;
  begun = λ s. absurd (cc);
  differs = λ s. differs_after es e seats (h.differs refl);
}
