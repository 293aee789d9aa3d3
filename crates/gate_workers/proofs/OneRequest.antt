-- Bytes ask for one thing at most.
use Rattle.std.proofs.Common.{◌≡◌, ℕ, List, Some, None, sym, ap, ◌∙◌, inl, inr}
use Rattle.http_edge.proofs.Unique.{one_message, not_both}
use Rattle.http_edge.specs.Delivery.{IsMalformed}
use Rattle.http_edge.specs.Message.{Message}
use Rattle.http_edge.specs.Reading.{BeginsWith, IsTooLong}
use Rattle.gate_workers.specs.Requested.{Requested, asked}
use Rattle.gate_workers.specs.Asks.{Asks}

no_message : (bytes : List ℕ) (m : Message) → IsMalformed bytes → BeginsWith bytes m → ⊥
no_message bytes m bad b = bad.1 b.0 (Some b.1) b.2

not_too_long : (bytes : List ℕ) → IsMalformed bytes → IsTooLong bytes → ⊥
not_too_long bytes bad t = bad.1 t.0 None t.1

pub one_request : (bytes : List ℕ) (a b : Requested) → Asks bytes a → Asks bytes b → a ≡ b
one_request bytes a b (inl m) (inl n) = m.2 ∙ ap asked (one_message bytes m.0 n.0 m.1 n.1) ∙ sym n.2
one_request bytes a b (inl m) (inr (inl t)) = absurd (not_both bytes m.0 m.1 t.0)
one_request bytes a b (inl m) (inr (inr x)) = absurd (no_message bytes m.0 x.0 m.1)
one_request bytes a b (inr (inl t)) (inl m) = absurd (not_both bytes m.0 m.1 t.0)
one_request bytes a b (inr (inl t)) (inr (inl u)) = t.1 ∙ sym u.1
one_request bytes a b (inr (inl t)) (inr (inr x)) = absurd (not_too_long bytes x.0 t.0)
one_request bytes a b (inr (inr x)) (inl m) = absurd (no_message bytes m.0 x.0 m.1)
one_request bytes a b (inr (inr x)) (inr (inl t)) = absurd (not_too_long bytes x.0 t.0)
one_request bytes a b (inr (inr x)) (inr (inr y)) = x.1 ∙ sym y.1
