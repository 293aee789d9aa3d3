use Rattle.std.proofs.Common.{◌≡◌, None, length}
use Rattle.std.specs.List.{All}
use Rattle.book_desk.proofs.none.none_of.Given as goal

abbrev pub invariant-loop : goal.invariant-loop
invariant-loop g l =
    record { count : length l.list.items ≡ l.counter; none : All (λ o. o ≡ None) l.list.items }
