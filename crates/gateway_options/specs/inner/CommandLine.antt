-- The command that clap reads the words by.
use Rattle.std.specs.Prelude.{◌≡◌, false}
use Rattle.clap.specs.Words.{App, app_of}
use Rattle.clap.specs.declared.builder.command.Command.{Command, out-Command}

-- no argument of the command is passed on to its subcommands
abbrev pub IsOwn : Command → Type 0
IsOwn c = (out-Command c).has_globals ≡ false

-- the command by clap's rules, with no argument that is passed on to subcommands
abbrev pub IsCommand : App → Command → Type 0
IsCommand app c = (app_of c ≡ app) × IsOwn c
