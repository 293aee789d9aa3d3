-- What is said of ends holds of those that tell the same bytes.
use Rattle.std.proofs.Common.{◌≡◌, ℕ, List, sym}
use Rattle.std.specs.Prelude.{Option}
use Rattle.gate_workers.specs.Conversations.{Giving}
use Rattle.gate_workers.specs.Served.{IsServed}
use Rattle.gate_workers.specs.declared.service.Served.{Served}

-- a request that was served
pub served_at_ends : {K : Type 0} (gives : Giving K) (k l : K) (i j o p n m : Option (List ℕ))
    (s : Served) → i ≡ j → o ≡ p → n ≡ m → IsServed gives i k l o n s → IsServed gives j k l p m s
served_at_ends gives k l i j o p n m s input before after h =
    rw (sym input) (rw (sym before) (rw (sym after) h))
