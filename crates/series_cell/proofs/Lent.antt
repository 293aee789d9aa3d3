-- What a cell keeps, while it is lent from its box.
use Rattle.std.proofs.Common.{◌≡◌, ◌∙◌, List, [], ◌∷◌, ◌++◌, ap, sym, subst}
use Rattle.series_cell.specs.Cells.{CellView}
use Rattle.series_cell.specs.declared.batch_span.BatchSpan.{BatchSpan}
use Rattle.series_cell.specs.inner.CellParts.{view_of, AreWords, IsCell, IsKept, IsLean}
use Rattle.series_cell.specs.declared.cell_parts.CellParts.{CellParts}

pub lent_cell : {k boxed : CellParts} → k ≡ boxed → IsKept boxed → IsCell (view_of k)
lent_cell e h = subst (λ w. IsCell (view_of w)) (sym e) h.cell

pub lent_words : {k boxed : CellParts} → k ≡ boxed → IsKept boxed → AreWords k.rows.accepted
lent_words e h = subst (λ (w : CellParts). AreWords w.rows.accepted) (sym e) h.words

pub lent_view : {k boxed : CellParts} {c : CellView} → k ≡ boxed → view_of boxed ≡ c → view_of k ≡ c
lent_view e h = ap view_of e ∙ h

pub lent : {k boxed : CellParts} {c : CellView} (P : CellView → Type 0) → k ≡ boxed
    → view_of boxed ≡ c → P c → P (view_of k)
lent P e is h = subst P (sym (lent_view e is)) h

pub lent_lean : {k boxed : CellParts} → k ≡ boxed → IsKept boxed → IsLean (view_of k)
lent_lean e h = subst (λ w. IsLean (view_of w)) (sym e) h.lean

-- where a span was put there is one
pub some_put : (xs ms : List BatchSpan) (m : BatchSpan) → xs ≡ ms ++ m ∷ [] → xs ≡ [] → ⊥
some_put xs ms m e n = some ms (sym e ∙ n)
  where
    some : (ns : List BatchSpan) → ns ++ m ∷ [] ≡ [] → ⊥
    some [] q = let none : m ∷ [] ≡ [] = q in cc
    some (k ∷ ns) q = let none : k ∷ (ns ++ m ∷ []) ≡ [] = q in cc
