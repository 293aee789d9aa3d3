-- The command line: its options, and the meaning of its words.
use Rattle.std.specs.Prelude.{◌≡◌, ◌≤◌, ℕ, List, [], ◌∷◌, Option, Some, None, codes, pos, true}
use Rattle.std.specs.Prelude.{false, option_and_then}
use Rattle.std.specs.Option.{option_map_or}
use Rattle.clap.specs.Words.{App, Row, Rule, Text, fault_of, first_of, new_app, new_rule}
use Rattle.clap.specs.Words.{subcommand_of, with_rule, with_subcommand}
use Rattle.clap.specs.declared.builder.value_parser.ValueParser.TheVariants as vp
use Rattle.decimals.specs.Numbers.{number_up_to}
use Rattle.gateway_options.specs.declared.command_line.TheConstants.{MAX_CONNECTIONS, MAX_RECEIVERS}
use Rattle.gateway_options.specs.declared.command_line.TheConstants.{MAX_FLUSHERS, MAX_FLUSH_SERIES}
use Rattle.gateway_options.specs.declared.command_line.TheConstants.{MAX_ROUND, MAX_SENDERS}
use Rattle.gateway_options.specs.declared.command_line.TheConstants.{MAX_BATCHES}
use Rattle.gateway_options.specs.declared.subcommand.Options.{Options}
use Rattle.gateway_options.specs.declared.subcommand.Options.TheVariants.{Serve, Rehearse}
use Rattle.gateway_options.specs.declared.serve_options.ServeOptions.{ServeOptions}
use Rattle.gateway_options.specs.declared.rehearse_options.RehearseOptions.{RehearseOptions}

-- an option whose value is a number: `--name N`, its default (without one it must be given), and
-- its range
pub record Number : Type 0 where
  pub name : Text
  pub default : Option Text
  pub least : ℕ
  pub most : ℕ

-- the option by clap's rules
abbrev pub number_rule : Number → Rule
number_rule n = record (new_rule n.name) {
  long = Some n.name;
  value_names = 1;
  defaults = option_map_or (λ text. text ∷ []) n.default [];
  required = option_map_or (λ text. false) n.default true;
  parser = Some (vp.Signed (pos n.least) (pos n.most));
}

-- `--backend HOST:PORT`, which must be given
abbrev pub backend : Rule
backend = record (new_rule (codes "backend")) {
  long = Some (codes "backend");
  value_names = 1;
  required = true;
}

-- `--listen HOST:PORT`
abbrev pub listen : Rule
listen = record (new_rule (codes "listen")) {
  long = Some (codes "listen");
  value_names = 1;
  defaults = codes "127.0.0.1:4318" ∷ [];
}

-- `--connections N`, which must be given
abbrev pub connections : Number
connections =
    record { name = codes "connections"; default = None; least = 0; most = MAX_CONNECTIONS }

-- `--receivers N`
abbrev pub receivers : Number
receivers =
    record { name = codes "receivers"; default = Some (codes "2"); least = 1; most = MAX_RECEIVERS }

-- `--flushers N`
abbrev pub flushers : Number
flushers =
    record { name = codes "flushers"; default = Some (codes "1"); least = 1; most = MAX_FLUSHERS }

-- `--flush-series N`
abbrev pub flush_series : Number
flush_series = record {
  name = codes "flush-series";
  default = Some (codes "1000");
  least = 1;
  most = MAX_FLUSH_SERIES;
}

-- `--round N`
abbrev pub round : Number
round = record { name = codes "round"; default = Some (codes "32000"); least = 1; most = MAX_ROUND }

-- `--senders N`
abbrev pub senders : Number
senders =
    record { name = codes "senders"; default = Some (codes "2"); least = 1; most = MAX_SENDERS }

-- `--batches N`
abbrev pub batches : Number
batches =
    record { name = codes "batches"; default = Some (codes "3"); least = 1; most = MAX_BATCHES }

-- the command with these numeric options too
abbrev pub with_numbers : App → List Number → App
with_numbers app [] = app
with_numbers app (n ∷ ns) = with_numbers (with_rule app (number_rule n)) ns

-- `serve`
abbrev pub serve : App
serve =
    with_numbers (with_rule (with_rule (new_app (codes "serve")) backend) listen)
    (connections ∷ receivers ∷ flushers ∷ flush_series ∷ round ∷ [])

-- `rehearse`
abbrev pub rehearse : App
rehearse = with_numbers (new_app (codes "rehearse")) (senders ∷ batches ∷ [])

-- the command before it has subcommands, one of which must be given
abbrev pub bare : App
bare = record (new_app (codes "gateway")) {
  top = record (new_app (codes "gateway")).top { subcommand_required = true };
}

-- the whole command
abbrev pub gateway : App
gateway = with_subcommand (with_subcommand bare serve.top) rehearse.top

-- the option's value is digits that write v, and v is in the option's range
abbrev pub IsNumber : Number → List Row → ℕ → Type 0
IsNumber n rows v =
    (option_and_then (number_up_to n.most) (first_of n.name rows) ≡ Some v) × (n.least ≤ v)

-- the values of the options of `serve`
abbrev pub AreServed : List Row → ServeOptions → Type 0
AreServed rows o =
    (first_of (codes "backend") rows ≡ Some o.backend.now)
    × (first_of (codes "listen") rows ≡ Some o.listen.now)
    × IsNumber connections rows o.connections × IsNumber receivers rows o.receivers
    × IsNumber flushers rows o.flushers × IsNumber flush_series rows o.flush_series
    × IsNumber round rows o.round

-- the values of the options of `rehearse`
abbrev pub AreRehearsed : List Row → RehearseOptions → Type 0
AreRehearsed rows o = IsNumber senders rows o.senders × IsNumber batches rows o.batches

-- the subcommand is that of the options, with these values
abbrev pub IsGiven : Option (Text × List Row) → Options → Type 0
IsGiven given (Serve o) =
    (rows : List Row) × (given ≡ Some (codes "serve", rows)) × AreServed rows o
IsGiven given (Rehearse o) =
    (rows : List Row) × (given ≡ Some (codes "rehearse", rows)) × AreRehearsed rows o

-- by clap's rules the words have no fault, and mean these options, defaults included
abbrev pub IsMeant : List Text → Options → Type 0
IsMeant words o = (fault_of gateway words ≡ []) × IsGiven (subcommand_of gateway words) o
