-- What the getters of the matches read, by the rows of the subcommand.
use Rattle.std.proofs.Common.{◌≡◌, List, Option, Some, None, option_map}
use Rattle.clap.specs.Words.{Row, Text, subcommand_name_of, subcommand_rows_of}
use Rattle.clap.specs.declared.parser.matches.ArgMatches.{ArgMatches}
use Rattle.clap.specs.declared.parser.matches.ArgMatches.TheViews.{out-ArgMatches}

abbrev rows_in : Text × List Row → List Row
rows_in p = p.1

abbrev both : {B : Type 0} → (B → Text) → (B → List Row) → B → Text × List Row
both f g b = (f b, g b)

joined : {B : Type 0} (s : Option B) (f : B → Text) (g : B → List Row) (name : Text)
    (rows : List Row) → option_map f s ≡ Some name
    → option_map rows_in (option_map (both f g) s) ≡ Some rows
    → option_map (both f g) s ≡ Some (name, rows)
joined None f g name rows h k = cc
joined (Some b) f g name rows h k = cc

-- a name and rows that are found apart are found together
pub given_together : (m : ArgMatches) (name : Text) (rows : List Row)
    → subcommand_name_of m ≡ Some name
    → option_map (λ (p : Text × List Row). p.1) (subcommand_rows_of m) ≡ Some rows
    → subcommand_rows_of m ≡ Some (name, rows)
given_together m name rows h k = joined (out-ArgMatches m).subcommand _ _ name rows h k
