-- The place of a receipt.
use Rattle.std.specs.Prelude.{◌≡◌, ℕ, ◌+◌, List, ◌∷◌, drop}
use Rattle.shared_book.specs.declared.receipt.Receipt.{Receipt}

-- the receipt is at this index of the list
abbrev pub IsNext : List Receipt → ℕ → Receipt → Type 0
IsNext receipts at receipt = drop at receipts ≡ receipt ∷ drop (at + 1) receipts
