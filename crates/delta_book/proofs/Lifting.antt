-- The walk that lifts what a flush takes: one cell more.
use Rattle.std.proofs.Common.{◌≡◌, ℕ, ◌+◌, ◌<◌, Bool, true, false, cond, not, ◌&&◌, List, [], ◌∷◌}
use Rattle.std.proofs.Common.{◌++◌, map, set, get_or, length, take, drop, refl, ap, sym, ◌∙◌, subst}
use Rattle.std.proofs.Common.{arith, zero, suc}
use Rattle.std.specs.Prelude.{nat_lt}
use Rattle.std.specs.List.{list_any}
use Rattle.std.proofs.lemmas.Bool.{and_parts, or_from}
use Rattle.std.proofs.lemmas.List.Folds.{list_any-append}
use Rattle.std.proofs.lemmas.List.{drop_more, take_more_set}
use Rattle.series_id.specs.Order.{same_series}
use Rattle.metric_events.specs.Points.{at, is_among, is_home}
use Rattle.metric_events.specs.Legal.{are_distinct, is_held}
use Rattle.metric_events.specs.Standing.{stands}
use Rattle.metric_events.specs.declared.place.Place.TheVariants.{InFlight}
use Rattle.metric_events.specs.Series.{of_series}
use Rattle.metric_events.specs.declared.accepted.Accepted.{Accepted}
use Rattle.series_cell.specs.Cells.{CellView, Stands, lifted}
use Rattle.series_cell.proofs.Reading.{stored_is}
use Rattle.series_cell.proofs.Points.{MovesOnly}
use Rattle.delta_book.specs.Tables.{AreCells, id_of}
use Rattle.delta_book.specs.inner.Ready.{is_ready, ready_ids}
use Rattle.delta_book.specs.inner.Tables.{on_series}
use Rattle.delta_book.proofs.Tables.{not_first, among_at, id_at, ids_distinct, on_more}
use Rattle.delta_book.proofs.Tables.{cell_changed}
use Rattle.delta_book.proofs.Preparing.{ready_push}

-- what is left is as it was, from the next cell on
pub rest_next : {X : Type 0} (xs ys : List X) (i : ℕ) (x : X) → i < length xs
    → length xs ≡ length ys → x ≡ get_or xs i x → drop i xs ≡ drop i ys
    → (x ≡ get_or ys i x) × (drop (i + 1) xs ≡ drop (i + 1) ys)
rest_next xs ys i x l n e h =
    let s = sym (drop_more xs i x l) ∙ (h ∙ drop_more ys i x (omega (arith, l, n))) in
    (e ∙ ap (λ zs. get_or zs 0 x) s, ap (drop 1) s)

-- a cell is of no series of those before it
fresh_ready : (held : List (List ℕ)) (cs : List CellView) (i : ℕ) (c : CellView)
    → are_distinct (map id_of cs) ≡ true → i < length cs → c ≡ get_or cs i c
    → is_among c.id (ready_ids held (take i cs)) ≡ false
fresh_ready held [] i c u l e = absurd (omega (arith, l))
fresh_ready held (d ∷ cs) zero c u l e = refl
fresh_ready held (d ∷ cs) (suc i) c u l e =
    let p = and_parts (not (is_among d.id (map id_of cs))) (are_distinct (map id_of cs)) u in
    both (is_ready held d) refl
    (not_first d.id c.id (map id_of cs) p.0
    (among_at cs i c.id (id_at cs i c c.id (omega arith) e refl)))
    (fresh_ready held cs i c p.1 (omega arith) e)
  where
    both : (v : Bool) → is_ready held d ≡ v → same_series c.id d.id ≡ false
        → is_among c.id (ready_ids held (take i cs)) ≡ false
        → is_among c.id (ready_ids held (d ∷ take i cs)) ≡ false
    both true f n r =
        rw f (or_from (same_series c.id d.id) (is_among c.id (ready_ids held (take i cs))) n r)
    both false f n r = rw f r

-- a cell that is ready is lifted
pub lifted_next : (g : Accepted → Accepted) → MovesOnly g
    → (held : List (List ℕ)) (cs ds : List CellView) (qs : List Accepted) (i : ℕ) (c d : CellView)
    → AreCells cs qs → AreCells ds (map (on_series g (ready_ids held (take i cs))) qs)
    → i < length cs → i < length ds → c ≡ get_or cs i c → c ≡ get_or ds i c
    → is_ready held c ≡ true → d.id ≡ c.id
    → ((rs : List Accepted) → Stands c rs → Stands d (map g rs))
    → AreCells (set ds i d)
    (map (on_series g (ready_ids held (take (i + 1) cs))) qs)
lifted_next g m held cs ds qs i c d h k lc ld ec ed r same s =
    let xs = ready_ids held (take i cs) in
    subst (AreCells (set ds i d))
    (on_more g m c.id xs (fresh_ready held cs i c (ids_distinct cs qs h) lc ec) qs
    ∙ ap (λ ys. map (on_series g ys) qs)
    (ready_push held cs i c xs (xs ++ c.id ∷ []) c.id lc ec r refl refl refl))
    (cell_changed g m ds (map (on_series g xs) qs) i c d c.id k ld ed (id_at ds i c c.id ld ed refl)
    same (s (of_series c.id (map (on_series g xs) qs))))

-- of a cell that is lifted nothing may be taken

none_home : (f : ℕ) (qs : List Accepted) → list_any (stands is_home) (map (lifted f) qs) ≡ false
none_home f [] = refl
none_home f (a ∷ qs) = or_from (is_home (lifted f a).place)
    (list_any (stands is_home) (map (lifted f) qs)) (both (is_home a.place) refl) (none_home f qs)
  where
    both : (v : Bool) → is_home a.place ≡ v → is_home (lifted f a).place ≡ false
    both true e = ap (λ v. is_home (cond v (at (InFlight f) a) a).place) e
    both false e = ap (λ v. is_home (cond v (at (InFlight f) a) a).place) e ∙ e

pub lifted_over : (held : List (List ℕ)) (c : CellView) (f : ℕ) (qs : List Accepted)
    → Stands c (map (lifted f) qs) → is_ready held c ≡ false
lifted_over held c f qs h = ap (λ v. v && (not (nat_lt 0 c.cut) && not (is_held c.owner held)))
    (stored_is c (map (lifted f) qs) h ∙ none_home f qs)

-- none passes a test, up to the next one
pub none_set : {X : Type 0} (t : X → Bool) (xs : List X) (i : ℕ) (y : X) → i < length xs
    → list_any t (take i xs) ≡ false → t y ≡ false → list_any t (take (i + 1) (set xs i y)) ≡ false
none_set t xs i y l n m = ap (list_any t) (take_more_set xs i y l)
    ∙ (list_any-append t (take i xs) (y ∷ [])
    ∙ or_from (list_any t (take i xs)) (list_any t (y ∷ [])) n (or_from (t y) false m refl))
