-- The walk that finds what a flush takes: one cell more.
use Rattle.std.proofs.Common.{◌≡◌, ℕ, ◌+◌, ◌<◌, ◌≤◌, true, false, List, [], ◌∷◌, ◌++◌, map, filter}
use Rattle.std.proofs.Common.{take, get_or, length, refl, ap, sym, ◌∙◌, arith}
use Rattle.std.specs.declared.option.Option.{Option}
use Rattle.std.specs.Option.{option_to_list}
use Rattle.std.proofs.lemmas.List.{append-nil, length-append, map-append}
use Rattle.std.proofs.lemmas.List.Elements.{filter-append}
use Rattle.series_id.specs.Identity.{Identity}
use Rattle.metric_events.specs.DataPoint.{DataPoint}
use Rattle.metric_events.specs.Choice.{present}
use Rattle.series_cell.specs.Cells.{CellView}
use Rattle.delta_book.specs.Tables.{id_of}
use Rattle.delta_book.specs.inner.Ready.{is_ready, ready_ids}
use Rattle.delta_book.proofs.Tables.{take_next}
use Rattle.delta_book.proofs.Sending.{present_push}

ready_more : (held : List (List ℕ)) (cs : List CellView) (i : ℕ) (c : CellView) → i < length cs
    → c ≡ get_or cs i c
    → ready_ids held (take (i + 1) cs) ≡ ready_ids held (take i cs) ++ ready_ids held (c ∷ [])
ready_more held cs i c l e =
    ap (ready_ids held) (take_next cs i c l e)
    ∙ (ap (map id_of) (filter-append (is_ready held) (take i cs) (c ∷ []))
    ∙ map-append id_of (filter (is_ready held) (take i cs)) (filter (is_ready held) (c ∷ [])))

one_ready : (held : List (List ℕ)) (c : CellView) → is_ready held c ≡ true
    → ready_ids held (c ∷ []) ≡ c.id ∷ []
one_ready held c r = rw r refl

not_ready : (held : List (List ℕ)) (c : CellView) → is_ready held c ≡ false
    → ready_ids held (c ∷ []) ≡ []
not_ready held c r = rw r refl

pub ready_push : (held : List (List ℕ)) (cs : List CellView) (i : ℕ) (c : CellView)
    (xs ys : List Identity) (x : Identity) → i < length cs → c ≡ get_or cs i c
    → is_ready held c ≡ true → xs ≡ ready_ids held (take i cs) → ys ≡ xs ++ x ∷ [] → x ≡ c.id
    → ys ≡ ready_ids held (take (i + 1) cs)
ready_push held cs i c xs ys x l e r f p s =
    p ∙ (ap (λ zs. zs ++ x ∷ []) f
    ∙ (ap (λ z. ready_ids held (take i cs) ++ z ∷ []) s
    ∙ (ap (λ zs. ready_ids held (take i cs) ++ zs) (sym (one_ready held c r))
    ∙ sym (ready_more held cs i c l e))))

pub ready_skip : (held : List (List ℕ)) (cs : List CellView) (i : ℕ) (c : CellView) → i < length cs
    → c ≡ get_or cs i c → is_ready held c ≡ false
    → ready_ids held (take i cs) ≡ ready_ids held (take (i + 1) cs)
ready_skip held cs i c l e r =
    sym (ready_more held cs i c l e ∙ (ap (λ zs. ready_ids held (take i cs) ++ zs)
    (not_ready held c r) ∙ append-nil (ready_ids held (take i cs))))

pub few_push : (xs ys : List Identity) (x : Identity) (m : ℕ) → ys ≡ xs ++ x ∷ [] → length xs < m
    → length ys ≤ m
few_push xs ys x m p l = omega (arith, ap length p, length-append xs (x ∷ []), l)

pub points_push : (f : Identity → Option DataPoint) (xs ys : List Identity) (x y : Identity)
    (ps qs : List DataPoint) (o : Option DataPoint) → ys ≡ xs ++ x ∷ [] → x ≡ y
    → ps ≡ present (map f xs) → qs ≡ ps ++ option_to_list o → o ≡ f y → qs ≡ present (map f ys)
points_push f xs ys x y ps qs o p s h q m =
    q ∙ (ap (λ z. ps ++ option_to_list z) m
    ∙ (ap (λ rs. rs ++ option_to_list (f y)) h
    ∙ (present_push f xs y ∙ ap (λ zs. present (map f zs)) (sym (p ∙ ap (λ z. xs ++ z ∷ []) s)))))
