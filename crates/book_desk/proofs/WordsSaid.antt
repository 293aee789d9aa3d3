-- Words that go on, over names that go on.
use Rattle.std.proofs.Common.{◌≡◌, ℕ, zero, suc, ◌+◌, ◌<◌, ◌≤◌, Option, Some, None, List, [], ◌∷◌}
use Rattle.std.proofs.Common.{◌++◌, length, take, drop, get_or, refl, sym, ap, subst, ◌∙◌, arith}
use Rattle.std.proofs.Common.{length-drop, append_assoc, inl, inr}
use Rattle.std.specs.Prelude.{slice_get}
use Rattle.std.specs.List.{flat_map}
use Rattle.std.proofs.lemmas.Grind.{flat_map-append}
use Rattle.std.proofs.lemmas.List.{take_all, take_more, take-append-le, append-nil}
use Rattle.series_id.specs.Identity.{Identity, row_length}
use Rattle.series_id.specs.declared.kinds.Kind.{Kind}
use Rattle.series_id.specs.declared.kinds.Kind.TheVariants.{Sum, Histogram}
use Rattle.metric_events.specs.DataPoint.{DataPoint, IsMerged, IsRowOfOne, IsPoint}
use Rattle.otlp_read.specs.Tallies.{Tally, add_point, nothing}
use Rattle.book_desk.specs.Naming.{IsNumbered, Extends}
use Rattle.book_desk.specs.declared.part.Part.{Part}
use Rattle.book_desk.specs.Said.{AreSaid}
use Rattle.book_desk.specs.Splits.{points_in}
use Rattle.book_desk.specs.Words.{said, said_by, point_said, width}
use Rattle.book_desk.specs.inner.Alone.{alone}
use Rattle.book_desk.specs.inner.WordsOf.{row_words, words_of}
use Rattle.book_desk.proofs.HistogramSaid.{histogram_back}
use Rattle.book_desk.proofs.SumSaid.{sum_back}
use Rattle.book_desk.proofs.WordsRead.{found, none, said_next, said_done}

-- ---- names

get_more : {A : Type 0} (xs ys : List A) (n : ℕ) (x : A) → slice_get xs n ≡ Some x
    → slice_get (xs ++ ys) n ≡ Some x
get_more [] ys n x e = absurd (cc)
get_more (y ∷ xs) ys zero x e = e
get_more (y ∷ xs) ys (suc n) x e = get_more xs ys n x e

pub extends_same : (names : List Identity) → Extends names names
extends_same names = ([], sym (append-nil names))

pub extends_more : (a b c : List Identity) → Extends a b → Extends b c → Extends a c
extends_more a b c (xs, e) (ys, f) =
    (xs ++ ys, f ∙ (ap (λ (zs : List Identity). zs ++ ys) e ∙ append_assoc a xs ys))

pub extends_numbered : (x : Identity) (old new : List Identity) (n : ℕ) → IsNumbered x old new n
    → Extends old new
extends_numbered x old new n (inl h) = ([], h.1 ∙ sym (append-nil old))
extends_numbered x old new n (inr h) = (x ∷ [], h.1)

-- ---- words that go on

-- the words of a point are all there
whole : (names : List Identity) (k : ℕ) (ws : List ℕ) (t u : Tally) → said names k ws t ≡ Some u
    → k ≤ length ws
unfolding said
whole names zero ws t u h = omega arith
whole names (suc k) [] t u h = absurd (cc)
whole names (suc k) (w ∷ ws) t u h = omega (arith, whole names k ws t u h)

-- so the words behind them go on with what they said
abbrev GoesOn : (names all : List Identity) (ws vs : List ℕ) → Type 0
GoesOn names all ws vs = (k : ℕ) (t u : Tally) → said names k ws t ≡ Some u
    → said all k (ws ++ vs) t ≡ said all 0 vs u

a_point : (names more : List Identity) (number : ℕ) (ws vs : List ℕ) (t u : Tally)
    (o : Option Identity) → slice_get names number ≡ o → GoesOn names (names ++ more) ws vs
    → said names 0 (number ∷ ws) t ≡ Some u
    → said (names ++ more) 0 (number ∷ (ws ++ vs)) t ≡ said (names ++ more) 0 vs u
a_point names more number ws vs t u None e goes h =
    let never : said names 0 (number ∷ ws) t ≡ None = none names number ws t e in absurd (cc)
a_point names more number ws vs t u (Some x) e goes h =
    let n = width x.kind in
    let rest : said names (width x.kind) ws (add_point (point_said x (take (width x.kind) ws)) t)
    ≡ Some u = sym (found names number ws t x e) ∙ h in
    let l : width x.kind ≤ length ws = whole names (width x.kind) ws _ u rest in
    found (names ++ more) number (ws ++ vs) t x (get_more names more number x e)
    ∙ (ap (λ (q : List ℕ). said (names ++ more) (width x.kind) (ws ++ vs)
    (add_point (point_said x q) t)) (take-append-le (width x.kind) ws vs l)
    ∙ goes (width x.kind) (add_point (point_said x (take (width x.kind) ws)) t) u rest)

goes_on : (names more : List Identity) (ws vs : List ℕ) → GoesOn names (names ++ more) ws vs
unfolding said
goes_on names more [] vs zero t u h = ap (λ (o : Option Tally). at o) h
  where
    at : Option Tally → Option Tally
    at None = None
    at (Some s) = said (names ++ more) 0 vs s
goes_on names more [] vs (suc k) t u h = absurd (cc)
goes_on names more (w ∷ ws) vs (suc k) t u h = goes_on names more ws vs k t u h
goes_on names more (w ∷ ws) vs zero t u h =
    a_point names more w ws vs t u (slice_get names w) refl (goes_on names more ws vs) h

-- ---- a point more

by_kind : (kind : Kind) (p : DataPoint) → p.series.kind ≡ kind → IsMerged p → IsRowOfOne kind p.row
    → (length (p.span.start ∷ p.span.end ∷ row_words kind p.row) ≡ width kind)
    × (said_by kind p.series (p.span.start ∷ p.span.end ∷ row_words kind p.row) ≡ Some p)
by_kind (Sum m) p k h r = (refl, sum_back p m (r.0) k (r.1) h)
by_kind (Histogram bs) p k h r = (
  omega (arith, length-drop 3 p.row, h.long, ap row_length k),
  histogram_back p bs (r.0) (r.1) k (r.2) h,
)

-- the words of a point say it
back : (p : DataPoint) → IsPoint p
    → (length (words_of p) ≡ width p.series.kind) × (point_said p.series (words_of p) ≡ Some p)
back p h = by_kind p.series.kind p refl h.merged h.one

one : (names : List Identity) (number : ℕ) (p : DataPoint) (t : Tally)
    → slice_get names number ≡ Some p.series → IsPoint p
    → said names 0 (number ∷ words_of p) t ≡ Some (add_point (Some p) t)
one names number p t e h =
    let ws : List ℕ = words_of p in
    let b = back p h in
    said_next names (length ws) 0 (number ∷ ws) t p.series (Some p) (omega arith) e (b.0)
    (omega arith) (sym (ap (λ (q : List ℕ). point_said p.series q)
    (take_all (length ws) ws (omega arith)) ∙ b.1))
    ∙ said_done names (drop (length ws + 1) (number ∷ ws)) (add_point (Some p) t)
    (omega (arith, length-drop (length ws + 1) (number ∷ ws)))

pub said_more : (names news : List Identity) (words more : List ℕ) (number : ℕ)
    (ps : List DataPoint) (p : DataPoint) → Extends names news → more ≡ words ++ number ∷ words_of p
    → slice_get news number ≡ Some p.series → IsPoint p → AreSaid names words ps
    → AreSaid news more (ps ++ p ∷ [])
said_more names news words more number ps p (xs, e) w g h s =
    ap (λ (ws : List ℕ). said news 0 ws nothing) w
    ∙ (subst (λ (all : List Identity). said all 0 (words ++ number ∷ words_of p) nothing
    ≡ said all 0 (number ∷ words_of p) (alone ps)) (sym e)
    (goes_on names xs words (number ∷ words_of p) 0 nothing (alone ps) s)
    ∙ one news number p (alone ps) g h)

-- no words say no points
pub none_said : (names : List Identity) (words : List ℕ) → words ≡ [] → AreSaid names words []
none_said names words e = said_done names words nothing (ap length e)

-- the points of one part more
pub part_more : (parts : List (Option Part)) (i : ℕ) (part : Option Part) → i < length parts
    → part ≡ get_or parts i part → flat_map points_in (take i parts) ++ points_in part
    ≡ flat_map points_in (take (i + 1) parts)
part_more parts i part l e = sym
    (ap (λ (all : List (Option Part)). flat_map points_in all) (take_more parts i part l)
    ∙ (flat_map-append points_in (take i parts) (get_or parts i part ∷ [])
    ∙ ap (λ (ps : List DataPoint). flat_map points_in (take i parts) ++ ps)
    (append-nil (points_in (get_or parts i part)) ∙ ap points_in (sym e))))
