-- Why a command line has no options.
use Rattle.std.specs.Prelude.{◌≡◌, ◌≢◌, [], ◌∷◌, List}
use Rattle.clap.specs.Words.{IsAmong, Kinds, Text, fault_of}
use Rattle.clap.specs.Kinds.{or_else}
use Rattle.clap.specs.Values.{kind_of}
use Rattle.clap.specs.declared.error.Error.{Error}
use Rattle.clap.specs.declared.error.kind.ErrorKind.TheVariants.{OutOfMemory, ValueValidation}
use Rattle.gateway_options.specs.CommandLine.{IsMeant, gateway}
use Rattle.gateway_options.specs.declared.line_fault.LineFault.{LineFault}
use Rattle.gateway_options.specs.declared.line_fault.LineFault.TheVariants.{Line, NoMemory}
use Rattle.gateway_options.specs.declared.subcommand.Options.{Options}

-- the fault that an error of clap is: out of memory exactly where it says so, and else its text is
-- kept
abbrev pub IsFaultOf : Error → LineFault → Type 0
IsFaultOf error NoMemory = kind_of error ≡ OutOfMemory
IsFaultOf error (Line kept) = (kept ≡ error) × (kind_of error ≢ OutOfMemory)

-- the kinds of error that a line without options may be told by: those that clap has at its words,
-- and where it has none, that a value is none of its option
abbrev pub kinds_of : List Text → Kinds
kinds_of words = or_else (fault_of gateway words) (ValueValidation ∷ [])

-- why these words have no options: memory ran out; or they mean none, and the error is of a kind
-- for them
abbrev pub IsRefused : List Text → LineFault → Type 0
IsRefused words NoMemory = Unit {0}
IsRefused words (Line error) =
    ((o : Options) → ¬ (IsMeant words o)) × IsAmong (kind_of error) (kinds_of words)
