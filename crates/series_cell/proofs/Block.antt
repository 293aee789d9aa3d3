-- Rows of a block that were written.
use borrow.Rule.Slice.PartMut.{put_mid}
use Rattle.std.proofs.Common.{◌≡◌, ◌≢◌, ℕ, ◌+◌, ◌-◌, ◌*◌, ◌/◌, ◌<◌, ◌≤◌, ◌⊎◌, inl, inr, zero, suc}
use Rattle.std.proofs.Common.{List, ◌∷◌, ◌++◌, length, take, drop, refl, ap, sym, ◌∙◌, arith}
use Rattle.std.proofs.Common.{length-append, length-drop}
use Rattle.std.proofs.lemmas.Bool.{cases_order}
use Rattle.std.proofs.lemmas.List.{take_at, drop_at, drop-drop, length-take-le, take-append-le}
use Rattle.std.proofs.lemmas.List.{drop-append-le, take-append-drop, append_assoc}
use Rattle.std.proofs.lemmas.Nat.{row_fits}
use Rattle.std.proofs.lemmas.Slice.{drop-put_mid}
use Rattle.std.proofs.Math.Seq.{drop-append-add, paste}
use Rattle.metric_events.specs.Rows.{zeros}
use Rattle.metric_events.proofs.Sums.{length-zeros}
use Rattle.series_cell.proofs.ByPlace.{written_back}
use Rattle.series_cell.specs.inner.Rows.{FiveRows, row_size, row_of, rows_of, zero_rows}

-- the n words from an index on
abbrev pub part : ℕ → ℕ → List ℕ → List ℕ
part n s ws = take n (drop s ws)

front_part : (n s : ℕ) (xs ys : List ℕ) → s + n ≤ length xs → part n s (xs ++ ys) ≡ part n s xs
front_part n s xs ys h = ap (take n) (drop-append-le s xs ys (omega arith))
    ∙ take-append-le n (drop s xs) ys (omega (arith, length-drop s xs))

back_part : (n s m : ℕ) (xs ys : List ℕ) → s ≡ length xs + m
    → part n s (xs ++ ys) ≡ part n m ys
back_part n s m xs ys e =
    ap (λ k. part n k (xs ++ ys)) e ∙ ap (take n) (drop-append-add xs ys m)

taken_part : (n s m : ℕ) (xs : List ℕ) → s + n ≤ m → m ≤ length xs
    → part n s (take m xs) ≡ part n s xs
taken_part n s m xs h l =
    sym (front_part n s (take m xs) (drop m xs) (omega (arith, length-take-le m xs l)))
    ∙ ap (part n s) (take-append-drop m xs)

-- a part that was written, and one apart from it

length_put : (a m : ℕ) (xs ys : List ℕ) → a + m ≤ length xs → length ys ≡ m
    → length (put_mid a m xs ys) ≡ length xs
length_put a m xs ys h l = omega (
  arith,
  length-append (take a xs) (ys ++ drop m (drop a xs)),
  length-append ys (drop m (drop a xs)),
  length-take-le a xs (omega arith),
  length-drop m (drop a xs),
  length-drop a xs,
)

put_part : (n a m : ℕ) (xs ys : List ℕ) → a ≤ length xs → length ys ≡ n
    → part n a (put_mid a m xs ys) ≡ ys
put_part n a m xs ys h l =
    ap (take n) (drop_at (take a xs) (ys ++ drop m (drop a xs)) a (length-take-le a xs h))
    ∙ take_at ys (drop m (drop a xs)) n l

other_part : (n s a m : ℕ) (xs ys : List ℕ) → (s + n ≤ a) ⊎ (a + m ≤ s) → a ≤ length xs
    → length ys ≡ m → part n s (put_mid a m xs ys) ≡ part n s xs
other_part n s a m xs ys (inl h) l e =
    front_part n s (take a xs) (ys ++ drop m (drop a xs)) (omega (arith, length-take-le a xs l))
    ∙ taken_part n s a xs h l
other_part n s a m xs ys (inr h) l e = ap (take n) (drop-put_mid a m xs ys s h l e)

-- two rows are apart, and each is inside

apart : (n j k : ℕ) → j ≢ k → (j * n + n ≤ k * n) ⊎ (k * n + n ≤ j * n)
apart n j k d = elim (cases_order j k) [
  | inl e ↦ absurd (d e)
  | inr h ↦ elim h [
    | inl l ↦ inl (row_fits j n k n l (omega arith))
    | inr l ↦ inr (row_fits k n j n l (omega arith))
  ]
]

pub inside : (k : ℕ) (ws : List ℕ) → k < 5 → k * row_size ws + row_size ws ≤ length ws
inside k ws h = omega (arith, row_fits k (row_size ws) 5 (row_size ws) h (omega arith))

-- a block of the same length has rows of the same length
row_as : (k : ℕ) (ws vs xs : List ℕ) → length vs ≡ length ws
    → part (row_size ws) (k * row_size ws) vs ≡ xs → row_of k vs ≡ xs
row_as k ws vs xs e h = ap (λ m. part (m / 5) (k * (m / 5)) vs) e ∙ h

pub length_row : (k : ℕ) (ws : List ℕ) → k < 5 → length (row_of k ws) ≡ row_size ws
length_row k ws h =
    length-take-le (row_size ws) (drop (k * row_size ws) ws)
    (omega (arith, inside k ws h, length-drop (k * row_size ws) ws))

-- what was lent of a block is one of its rows
pub row_is : (k a m : ℕ) (ws : List ℕ) → a ≡ k * row_size ws → m ≡ row_size ws
    → part m a ws ≡ row_of k ws
row_is k a m ws ea em =
    ap (λ s. part m s ws) ea ∙ ap (λ n. part n (k * row_size ws) ws) em

-- row k alone was written
pub record IsWritten (k : ℕ) (xs ws vs : List ℕ) : Type 0 where
  pub here : row_of k vs ≡ xs
  pub rest : (j : ℕ) → j ≢ k → row_of j vs ≡ row_of j ws

pub written : (k a m : ℕ) (ws xs : List ℕ) → k < 5 → a ≡ k * row_size ws → m ≡ row_size ws
    → length xs ≡ length (part m a ws) → IsWritten k xs ws (put_mid a m ws xs)
written k a m ws xs h ea em e =
    let n = row_size ws in
    let l : length xs ≡ n = e ∙ (ap length (row_is k a m ws ea em) ∙ length_row k ws h) in
    let low : a + m ≤ length ws = omega (arith, inside k ws h, ea, em) in
    let long = length_put a m ws xs low (omega (arith, l, em)) in
    record {
      here = row_as k ws _ xs long
          (ap (λ s. part n s (put_mid a m ws xs)) (sym ea)
          ∙ put_part n a m ws xs (omega (arith, low)) l);
      rest = λ j d. row_as j ws _ (row_of j ws) long
          (other_part n (j * n) a m ws xs
          (elim (apart n j k d) [
            | inl o ↦ inl (omega (arith, o, ea))
            | inr o ↦ inr (omega (arith, o, ea, em))
          ])
          (omega (arith, low)) (omega (arith, l, em)));
    }

-- a row copied over another
pub copied : (ws : List ℕ) (s a n : ℕ)
    → paste ws a (drop s ws) n ≡ put_mid a n ws (part n s ws)
copied ws s a n = append_assoc (take a ws) (part n s ws) (drop (a + n) ws)
    ∙ ap (λ rs. take a ws ++ (part n s ws ++ rs)) (sym (drop-drop n a ws))

-- rows j and k alone were written, of which parts of a block were lent that was cut where the
-- second begins
pub record AreWritten (j k a m p : ℕ) (ws front back xs ys vs : List ℕ) : Type 0 where
  pub before : part m a front ≡ row_of j ws
  pub after : part p 0 back ≡ row_of k ws
  pub first : row_of j vs ≡ xs
  pub second : row_of k vs ≡ ys
  pub rest : (i : ℕ) → i ≢ j → i ≢ k → row_of i vs ≡ row_of i ws

pub both_written : (j k a b m p : ℕ) (ws front back xs ys : List ℕ) → j < k → k < 5
    → a ≡ j * row_size ws → b ≡ k * row_size ws → m ≡ row_size ws → p ≡ row_size ws
    → front ≡ take b ws → back ≡ drop b ws → length xs ≡ length (part m a front)
    → length ys ≡ length (part p 0 back)
    → AreWritten j k a m p ws front back xs ys (put_mid a m front xs ++ put_mid 0 p back ys)
both_written j k a b m p ws front back xs ys lt h ea eb em ep ef eg el eh =
    let n = row_size ws in
    let low : b + n ≤ length ws = omega (arith, inside k ws h, eb) in
    let cut : a + n ≤ b = omega (arith, row_fits j n k n lt (omega arith), ea, eb) in
    let lf : length front ≡ b = ap length ef ∙ length-take-le b ws (omega (arith, low)) in
    let lb : length back ≡ length ws - b = ap length eg ∙ length-drop b ws in
    let front_is : part m a front ≡ row_of j ws =
    ap (part m a) ef
    ∙ (taken_part m a b ws (omega (arith, cut, em)) (omega (arith, low)) ∙ row_is j a m ws ea em) in
    let back_is : part p 0 back ≡ row_of k ws = ap (part p 0) eg ∙ row_is k b p ws eb ep in
    let lx : length xs ≡ n =
    el ∙ (ap length front_is ∙ length_row j ws (omega (arith, lt, h))) in
    let ly : length ys ≡ n = eh ∙ (ap length back_is ∙ length_row k ws h) in
    let long : length (put_mid a m front xs) ≡ b =
    length_put a m front xs (omega (arith, cut, lf, em)) (omega (arith, lx, em)) ∙ lf in
    let deep : length (put_mid 0 p back ys) ≡ length back =
    length_put 0 p back ys (omega (arith, lb, low, ep)) (omega (arith, ly, ep)) in
    let all : length (put_mid a m front xs ++ put_mid 0 p back ys) ≡ length ws =
    omega (
      arith,
      length-append (put_mid a m front xs) (put_mid 0 p back ys),
      long,
      deep,
      lb,
      low,
    ) in
    record {
      before = front_is;
      after = back_is;
      first = row_as j ws _ xs all
          (ap (λ s. part n s (put_mid a m front xs ++ put_mid 0 p back ys)) (sym ea)
          ∙ (front_part n a (put_mid a m front xs) (put_mid 0 p back ys) (omega (arith, cut, long))
          ∙ put_part n a m front xs (omega (arith, cut, lf)) lx));
      second = row_as k ws _ ys all
          (back_part n (k * n) 0 (put_mid a m front xs) (put_mid 0 p back ys)
          (omega (arith, eb, long)) ∙ put_part n 0 p back ys (omega arith) ly);
      rest = λ i d f. row_as i ws _ (row_of i ws) all (elim (apart n i k f) [
        | inl o ↦ front_part n (i * n) (put_mid a m front xs) (put_mid 0 p back ys)
            (omega (arith, o, eb, long))
            ∙ (other_part n (i * n) a m front xs
            (elim (apart n i j d) [
              | inl q ↦ inl (omega (arith, q, ea))
              | inr q ↦ inr (omega (arith, q, ea, em))
            ])
            (omega (arith, cut, lf)) (omega (arith, lx, em))
            ∙ (ap (part n (i * n)) ef
            ∙ taken_part n (i * n) b ws (omega (arith, o, eb)) (omega (arith, low))))
        | inr o ↦ back_part n (i * n) (i * n - b) (put_mid a m front xs) (put_mid 0 p back ys)
            (omega (arith, o, eb, long))
            ∙ (other_part n (i * n - b) 0 p back ys (inr (omega (arith, o, eb, ep)))
            (omega arith) (omega (arith, ly, ep))
            ∙ (ap (part n (i * n - b)) eg
            ∙ ap (take n) (drop-drop (i * n - b) b ws
            ∙ ap (λ s. drop s ws) (omega (arith, o, eb)))))
      ]);
    }

-- what each row of a block is
pub record AreRows (ws : List ℕ) (r : FiveRows) : Type 0 where
  pub accepted : row_of 0 ws ≡ r.accepted
  pub stored : row_of 1 ws ≡ r.stored
  pub in_flight : row_of 2 ws ≡ r.in_flight
  pub acknowledged : row_of 3 ws ≡ r.acknowledged
  pub dropped : row_of 4 ws ≡ r.dropped

-- the rows of a block that was lent
pub held : (ws lent : List ℕ) (r : FiveRows) → lent ≡ ws → rows_of ws ≡ r → AreRows lent r
held ws lent r e h = record {
  accepted = ap (row_of 0) e ∙ ap (λ (t : FiveRows). t.accepted) h;
  stored = ap (row_of 1) e ∙ ap (λ (t : FiveRows). t.stored) h;
  in_flight = ap (row_of 2) e ∙ ap (λ (t : FiveRows). t.in_flight) h;
  acknowledged = ap (row_of 3) e ∙ ap (λ (t : FiveRows). t.acknowledged) h;
  dropped = ap (row_of 4) e ∙ ap (λ (t : FiveRows). t.dropped) h;
}

pub rows_are : (ws : List ℕ) (r : FiveRows) → AreRows ws r → rows_of ws ≡ r
rows_are ws r h =
    ap (λ row. record (rows_of ws) { accepted = row }) h.accepted
    ∙ (ap (λ row. record (rows_of ws) { accepted = r.accepted; stored = row }) h.stored
    ∙ (ap (λ row. record r { in_flight = row; acknowledged = row_of 3 ws; dropped = row_of 4 ws })
    h.in_flight
    ∙ (ap (λ row. record r { acknowledged = row; dropped = row_of 4 ws }) h.acknowledged
    ∙ ap (λ row. record r { dropped = row }) h.dropped)))

-- a block written back whole
pub block_back : (ws lent vs : List ℕ) (n : ℕ) → lent ≡ ws → length vs ≡ length lent
    → n ≡ length ws → take n (vs ++ drop (length vs) ws) ≡ vs
block_back ws lent vs n e l f = written_back ws vs n (l ∙ ap length e) f

pub rows_back : (ws lent vs : List ℕ) (n : ℕ) (r : FiveRows) → lent ≡ ws
    → length vs ≡ length lent → n ≡ length ws → AreRows vs r
    → rows_of (take n (vs ++ drop (length vs) ws)) ≡ r
rows_back ws lent vs n r e l f h = ap rows_of (block_back ws lent vs n e l f) ∙ rows_are vs r h

-- a block of zeros

drop_zeros : (k m : ℕ) → drop k (zeros m) ≡ zeros (m - k)
drop_zeros zero m = let e : m ≡ m - 0 = omega arith in ap zeros e
drop_zeros (suc k) zero = let e : 0 ≡ 0 - suc k = omega arith in ap zeros e
drop_zeros (suc k) (suc m) =
    let e : m - k ≡ suc m - suc k = omega arith in drop_zeros k m ∙ ap zeros e

take_zeros : (n m : ℕ) → n ≤ m → take n (zeros m) ≡ zeros n
take_zeros zero m h = refl
take_zeros (suc n) zero h = absurd (omega arith)
take_zeros (suc n) (suc m) h = ap (λ ws. 0 ∷ ws) (take_zeros n m (omega arith))

zero_row_of : (k n m : ℕ) (ws : List ℕ) → k < 5 → ws ≡ zeros m → m ≡ n * 5
    → row_of k ws ≡ zeros n
zero_row_of k n m ws h e em =
    let size : row_size ws ≡ n = omega (arith, ap length e, length-zeros m, em) in
    ap (λ s. part s (k * s) ws) size
    ∙ (ap (part n (k * n)) e
    ∙ (ap (take n) (drop_zeros (k * n) m)
    ∙ take_zeros n (m - k * n) (omega (arith, row_fits k n 5 n h (omega arith), em))))

pub zero_rows_are : (n m : ℕ) (ws : List ℕ) → ws ≡ zeros m → m ≡ n * 5 → rows_of ws ≡ zero_rows n
zero_rows_are n m ws e em = rows_are ws (zero_rows n) (record {
  accepted = zero_row_of 0 n m ws (omega arith) e em;
  stored = zero_row_of 1 n m ws (omega arith) e em;
  in_flight = zero_row_of 2 n m ws (omega arith) e em;
  acknowledged = zero_row_of 3 n m ws (omega arith) e em;
  dropped = zero_row_of 4 n m ws (omega arith) e em;
})
