-- How a fault of a sender's name is answered.
use Rattle.std.specs.Prelude.{ℕ}
use Rattle.metric_events.specs.declared.sender_name.NameFault.{NameFault}
use Rattle.metric_events.specs.declared.sender_name.NameFault.TheVariants as names
use Rattle.book_c.specs.declared.statuses.TheConstants.{NO_MEMORY, BAD_SENDER}

-- why bytes are not a sender's name
abbrev pub name_status : NameFault → ℕ
name_status names.NoMemory = NO_MEMORY
name_status fault = BAD_SENDER
