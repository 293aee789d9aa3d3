-- What a worker of a round does.
use Rattle.std.specs.Prelude.{Bool, true, false}
use Rattle.gateway_serve.specs.declared.worker.Work.{Work}
use Rattle.gateway_serve.specs.declared.worker.Work.TheVariants.{Receive, Flush}

-- it carries out flushes
abbrev pub is_flush : Work → Bool
is_flush (Receive order) = false
is_flush (Flush orders) = true
