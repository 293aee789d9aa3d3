-- A point more of a post in the making, and its parts at the end.
use Rattle.std.proofs.Common.{◌≡◌, ℕ, Bool, true, false, if◌then◌else◌, Option, Some, None, List}
use Rattle.std.proofs.Common.{[], ◌∷◌, ◌++◌, length, get_or, sym, ap, subst, ◌∙◌, arith}
use Rattle.std.specs.List.{All}
use Rattle.std.proofs.lemmas.List.{append-nil}
use Rattle.std.proofs.lemmas.List.Elements.{filter-append}
use Rattle.metric_events.specs.DataPoint.{DataPoint}
use Rattle.metric_events.specs.Senders.{name_fault}
use Rattle.otlp_read.specs.Tallies.{Tally}
use Rattle.book_desk.specs.declared.draft.Counts.{Counts}
use Rattle.book_desk.specs.declared.draft.Draft.{Draft}
use Rattle.book_desk.specs.declared.part.Part.{Part}
use Rattle.book_desk.specs.declared.window.Window.{Window}
use Rattle.book_desk.specs.Drafts.{HasRead}
use Rattle.book_desk.specs.Reads.{AreParts, IsKept}
use Rattle.book_desk.specs.Splits.{IsFrom}
use Rattle.book_desk.specs.Windows.{is_within, within}
use Rattle.book_desk.specs.inner.Opened.{HasPoints}

pub inside : (w : Window) (ps : List DataPoint) (p : DataPoint) → is_within w p ≡ true
    → within w (ps ++ p ∷ []) ≡ within w ps ++ p ∷ []
inside w ps p e = filter-append (is_within w) ps (p ∷ [])
    ∙ ap (λ (b : Bool). within w ps ++ (if b then p ∷ [] else [])) e

pub outside : (w : Window) (ps : List DataPoint) (p : DataPoint) → is_within w p ≡ false
    → within w (ps ++ p ∷ []) ≡ within w ps
outside w ps p e = filter-append (is_within w) ps (p ∷ [])
    ∙ (ap (λ (b : Bool). within w ps ++ (if b then p ∷ [] else [])) e ∙ append-nil (within w ps))

-- each part has points
has_points : (sender : List ℕ) (part : Option Part) → IsFrom sender part → HasPoints part
has_points sender None h = tt
has_points sender (Some part) h = h.1

pub all_points : (books : ℕ) (sender : List ℕ) (ps : List DataPoint) (parts : List (Option Part))
    → AreParts books sender ps parts → All HasPoints parts
all_points books sender [] parts h = λ k d l. absurd (omega (arith, ap length h))
all_points books sender (p ∷ ps) parts h = λ k d l. has_points sender (get_or parts k d) (h.2 k d l)

-- what a post has at the end
pub kept_of : (d : Draft) (books : ℕ) (sender : List ℕ) (w : Window) (t s : Tally) (counts : Counts)
    (parts : List (Option Part)) → HasRead d t
    → ((u : Tally) → HasRead d u → AreParts (length d.parts.items) d.sender
    (within d.window u.points) parts) → length d.parts.items ≡ books → d.sender ≡ sender
    → d.window ≡ w → name_fault sender ≡ None → s.points ≡ t.points
    → counts.points ≡ d.counts.points → counts.outside ≡ d.counts.outside
    → counts.foreign ≡ s.foreign → IsKept books sender w s counts parts
kept_of d books sender w t s counts parts h f b n e m p x y z = record {
  named = m;
  split = subst (λ (k : ℕ). AreParts k sender (within w s.points) parts) b
      (subst (λ (q : List ℕ). AreParts (length d.parts.items) q (within w s.points) parts) n
      (subst (λ (v : Window). AreParts (length d.parts.items) d.sender (within v s.points) parts) e
      (subst (λ (ps : List DataPoint). AreParts (length d.parts.items) d.sender (within d.window ps)
      parts) (sym p) (f t h))));
  points = x ∙ (h.points ∙ (ap (λ (v : Window). length (within v t.points)) e
      ∙ ap (λ (ps : List DataPoint). length (within w ps)) (sym p)));
  all = omega (arith, x, y, h.all, ap length p);
  foreign = z;
}
