-- The calls of a keeper, each with its answer: those of a book, and an order for a flush turn.
use Rattle.std.specs.Prelude.{Result}
use Rattle.delta_book.specs.Calls as book
use Rattle.gate_workers.specs.declared.order.OrderFault.{OrderFault}
use Rattle.gate_workers.specs.declared.flush.Turn.{Turn}

pub data Call : Type 0 where
  on_book : (call : book.Call) → Call
  order : (answer : Result Turn OrderFault) → Call
