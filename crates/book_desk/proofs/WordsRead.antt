-- What the words of the next point add.
use Rattle.std.proofs.Common.{◌≡◌, ℕ, zero, suc, ◌<◌, ◌≤◌, Option, Some, None, List, [], ◌∷◌, ◌+◌}
use Rattle.std.proofs.Common.{length, get_or, take, drop, refl, sym, ap, subst, ◌∙◌, arith, add-one}
use Rattle.std.specs.Prelude.{slice_get, option_and_then}
use Rattle.series_id.specs.Identity.{Identity}
use Rattle.metric_events.specs.DataPoint.{DataPoint}
use Rattle.otlp_read.specs.Tallies.{Tally, add_point}
use Rattle.otlp_read.specs.Rules.{unless}
use Rattle.series_id.specs.declared.kinds.Kind.{Kind}
use Rattle.series_id.specs.declared.kinds.Kind.TheVariants.{Sum, Histogram}
use Rattle.book_desk.specs.Words.{said, said_by, width, point_said}

-- the words of a point are passed over
skipped : (names : List Identity) (k : ℕ) (ws : List ℕ) (t : Tally) → k ≤ length ws
    → said names k ws t ≡ said names 0 (drop k ws) t
unfolding said
skipped names zero ws t l = refl
skipped names (suc k) [] t l = absurd (omega arith)
skipped names (suc k) (w ∷ ws) t l = skipped names k ws t (omega arith)

-- they end within it
stopped : (names : List Identity) (k : ℕ) (ws : List ℕ) (t : Tally) → length ws < k
    → said names k ws t ≡ None
unfolding said
stopped names zero ws t l = absurd (omega arith)
stopped names (suc k) [] t l = refl
stopped names (suc k) (w ∷ ws) t l = stopped names k ws t (omega arith)

-- what a point and the words after it say
abbrev pub after : List Identity → List ℕ → Tally → Identity → Option Tally
after names ws t series = said names (width series.kind) ws
    (add_point (point_said series (take (width series.kind) ws)) t)

first : (names : List Identity) (number : ℕ) (ws : List ℕ) (t : Tally)
    → said names 0 (number ∷ ws) t ≡ option_and_then (after names ws t) (slice_get names number)
unfolding said
first names number ws t = refl

pub found : (names : List Identity) (number : ℕ) (ws : List ℕ) (t : Tally) (series : Identity)
    → slice_get names number ≡ Some series → said names 0 (number ∷ ws) t ≡ after names ws t series
found names number ws t series e =
    first names number ws t ∙ ap (option_and_then (after names ws t)) e

next_of : (names : List Identity) (number n : ℕ) (ws : List ℕ) (t : Tally) (series : Identity)
    (point : Option DataPoint) → slice_get names number ≡ Some series → n ≡ width series.kind
    → n ≤ length ws → point ≡ point_said series (take n ws)
    → said names 0 (number ∷ ws) t ≡ said names 0 (drop n ws) (add_point point t)
next_of names number n ws t series point e w l p =
    found names number ws t series e
    ∙ (subst (λ (m : ℕ). said names m ws (add_point (point_said series (take m ws)) t)
    ≡ said names n ws (add_point (point_said series (take n ws)) t)) w refl
    ∙ (ap (λ (q : Option DataPoint). said names n ws (add_point q t)) (sym p)
    ∙ skipped names n ws (add_point point t) l))

-- the point that comes next
pub said_next : (names : List Identity) (n d : ℕ) (left : List ℕ) (t : Tally) (series : Identity)
    (point : Option DataPoint) → 0 < length left → slice_get names (get_or left 0 d) ≡ Some series
    → n ≡ width series.kind → n ≤ length (drop 1 left)
    → point ≡ point_said series (take n (drop 1 left))
    → said names 0 left t ≡ said names 0 (drop (n + 1) left) (add_point point t)
said_next names n d [] t series point m e w l p = absurd (omega arith)
said_next names n d (number ∷ ws) t series point m e w l p =
    next_of names number n ws t series point e w l p
    ∙ ap (λ (k : ℕ). said names 0 (drop k (number ∷ ws)) (add_point point t)) (sym (add-one n))

-- its number has no name
pub none : (names : List Identity) (number : ℕ) (ws : List ℕ) (t : Tally)
    → slice_get names number ≡ None → said names 0 (number ∷ ws) t ≡ None
none names number ws t e = first names number ws t ∙ ap (option_and_then (after names ws t)) e

pub said_none : (names : List Identity) (d : ℕ) (left : List ℕ) (t : Tally) → 0 < length left
    → slice_get names (get_or left 0 d) ≡ None → said names 0 left t ≡ None
said_none names d [] t m e = absurd (omega arith)
said_none names d (number ∷ ws) t m e = none names number ws t e

-- the words end within it
pub said_short : (names : List Identity) (n d : ℕ) (left : List ℕ) (t : Tally) (series : Identity)
    → 0 < length left → slice_get names (get_or left 0 d) ≡ Some series → n ≡ width series.kind
    → length (drop 1 left) < n → said names 0 left t ≡ None
said_short names n d [] t series m e w l = absurd (omega arith)
said_short names n d (number ∷ ws) t series m e w l =
    found names number ws t series e
    ∙ stopped names (width series.kind) ws _ (subst (λ (k : ℕ). length ws < k) w l)

-- no words
pub said_done : (names : List Identity) (ws : List ℕ) (t : Tally) → length ws ≡ 0
    → said names 0 ws t ≡ Some t
unfolding said
said_done names [] t l = refl
said_done names (w ∷ ws) t l = absurd (omega arith)

-- a point that words say is of the series
unless_is : {F A : Type 0} (fault : Option F) (q p : A) → unless fault q ≡ Some p → q ≡ p
unless_is None q p h = cc
unless_is (Some fault) q p h = absurd (cc)

by_kind : (kind : Kind) (series : Identity) (ws : List ℕ) (p : DataPoint)
    → said_by kind series ws ≡ Some p → series ≡ p.series
by_kind (Sum monotonic) series ws p h = ap (λ (q : DataPoint). q.series) (unless_is _ _ p h)
by_kind (Histogram bounds) series ws p h = ap (λ (q : DataPoint). q.series) (unless_is _ _ p h)

pub said_series : (series : Identity) (ws : List ℕ) (p : DataPoint) → point_said series ws ≡ Some p
    → series ≡ p.series
said_series series ws p h = by_kind series.kind series ws p h
