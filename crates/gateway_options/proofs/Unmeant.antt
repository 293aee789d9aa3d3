-- What matches mean no options, and which faults such a line has.
use Rattle.std.proofs.Common.{◌≡◌, ◌<◌, ◌∙◌, List, [], ◌∷◌, Option, Some, None, option_map, length}
use Rattle.std.proofs.Common.{codes, ap, sym, subst, inl, inr, arith}
use Rattle.std.specs.Option.{option_map_or}
use Rattle.std.specs.Prelude.{IfErr, IfNone, IsErrAnd, Result, Ok, Err}
use Rattle.clap.specs.Words.{HasKind, IsAmong, Kinds, Row, Text, fault_of, first_of, first_value}
use Rattle.clap.specs.Words.{rows_of, subcommand_name_of, subcommand_of, subcommand_rows_of}
use Rattle.clap.specs.Kinds.{or_else}
use Rattle.clap.specs.Values.{kind_of}
use Rattle.clap.specs.declared.error.Error.{Error}
use Rattle.clap.specs.declared.error.kind.ErrorKind.{ErrorKind}
use Rattle.clap.specs.declared.error.kind.ErrorKind.TheVariants.{ValueValidation}
use Rattle.clap.specs.declared.parser.matches.ArgMatches.{ArgMatches}
use Rattle.clap.specs.declared.parser.matches.ArgMatches.TheViews.{out-ArgMatches}
use Rattle.clap.specs.declared.parser.matches.Found.{Found}
use Rattle.clap.proofs.WalkLemmas.{first_value-rows}
use Rattle.gateway_options.specs.CommandLine.{AreRehearsed, AreServed, IsGiven, gateway}
use Rattle.gateway_options.specs.LineFault.{IsFaultOf, IsRefused, kinds_of}
use Rattle.gateway_options.specs.declared.command_line.TheConstants.{MAX_BACKEND}
use Rattle.gateway_options.specs.declared.line_fault.LineFault.{LineFault}
use Rattle.gateway_options.specs.declared.line_fault.LineFault.TheVariants.{Line, NoMemory}
use Rattle.gateway_options.specs.declared.rehearse_options.RehearseOptions.{RehearseOptions}
use Rattle.gateway_options.specs.declared.serve_options.ServeOptions.{ServeOptions}
use Rattle.gateway_options.specs.declared.subcommand.Options.{Options}
use Rattle.gateway_options.specs.declared.subcommand.Options.TheVariants.{Serve, Rehearse}

pub where_none : {T P : Type 0} (o : Option T) → P → IfNone o P
where_none None p = p
where_none (Some x) p = tt

-- an option without a value has no text
pub no_text : (found : Found) (name text : Text) → None ≡ first_value found name
    → ¬ (first_of name (rows_of found) ≡ Some text)
no_text found name text none h =
    let bad : None ≡ Some text = none ∙ (first_value-rows found name ∙ h) in
    cc

-- a back end whose address is too long is none
pub no_backend : (rows : List Row) (text : Text) (o : ServeOptions)
    → first_of (codes "backend") rows ≡ Some text → MAX_BACKEND < length text → ¬ (AreServed rows o)
no_backend rows text o is long h =
    let same : length text ≡ length o.backend.now =
    ap (λ t. option_map_or length t 0) (sym is ∙ h.0) in
    omega (arith, same, long, o.short)

abbrev rows_in : Option (Text × List Row) → List Row
rows_in given = option_map_or (λ p. p.1) given []

abbrev name_in : Option (Text × List Row) → Text
name_in given = option_map_or (λ p. p.0) given []

-- a subcommand whose rows mean no options of its own means none
pub none_served : (given : Option (Text × List Row)) (rows : List Row)
    → given ≡ Some (codes "serve", rows) → ((o : ServeOptions) → ¬ (AreServed rows o))
    → (o : Options) → ¬ (IsGiven given o)
none_served given rows is none (Serve o) h =
    none o (subst (λ (r : List Row). AreServed r o) (ap rows_in (sym h.1 ∙ is)) h.2)
none_served given rows is none (Rehearse o) h =
    let bad : 5 ≡ 8 = ap (λ g. length (name_in g)) (sym is ∙ h.1) in
    absurd (omega (arith, bad))

pub none_rehearsed : (given : Option (Text × List Row)) (rows : List Row)
    → given ≡ Some (codes "rehearse", rows) → ((o : RehearseOptions) → ¬ (AreRehearsed rows o))
    → (o : Options) → ¬ (IsGiven given o)
none_rehearsed given rows is none (Serve o) h =
    let bad : 8 ≡ 5 = ap (λ g. length (name_in g)) (sym is ∙ h.1) in
    absurd (omega (arith, bad))
none_rehearsed given rows is none (Rehearse o) h =
    none o (subst (λ (r : List Row). AreRehearsed r o) (ap rows_in (sym h.1 ∙ is)) h.2)

abbrev both : {B : Type 0} → (B → Text) → (B → List Row) → B → Text × List Row
both f g b = (f b, g b)

named : {B : Type 0} (s : Option B) (f : B → Text) (g : B → List Row) (name : Text)
    (rows : List Row) → option_map (both f g) s ≡ Some (name, rows) → option_map f s ≡ Some name
named None f g name rows h = cc
named (Some b) f g name rows h = ap (option_map (λ (p : Text × List Row). p.0)) h

-- what is given has the name of the subcommand
name_given : (m : ArgMatches) (name : Text) (rows : List Row)
    → subcommand_rows_of m ≡ Some (name, rows) → subcommand_name_of m ≡ Some name
name_given m name rows h = named (out-ArgMatches m).subcommand _ _ name rows h

-- where neither subcommand was entered, no options are meant
pub none_given : (m : ArgMatches) → ¬ (subcommand_name_of m ≡ Some (codes "serve"))
    → ¬ (subcommand_name_of m ≡ Some (codes "rehearse")) → (o : Options)
    → ¬ (IsGiven (subcommand_rows_of m) o)
none_given m not_serve not_rehearse (Serve o) h = not_serve (name_given m _ _ h.1)
none_given m not_serve not_rehearse (Rehearse o) h = not_rehearse (name_given m _ _ h.1)

still_among : (k : ErrorKind) (ks next : Kinds) → IsAmong k ks → IsAmong k (or_else ks next)
still_among k [] next h = absurd h
still_among k (x ∷ xs) next h = h

-- clap has refused the words
pub refused_by_clap : (words : List Text) (e : Error) (fault : LineFault)
    → HasKind (fault_of gateway words) e → IsFaultOf e fault → IsRefused words fault
refused_by_clap words e NoMemory kind is = tt
refused_by_clap words e (Line kept) kind is = elim kind [
  | inl memory ↦ absurd (is.1 memory)
  | inr among ↦ (
    (λ o meant. subst (IsAmong (kind_of e)) meant.0 among),
    subst (λ (x : Error). IsAmong (kind_of x) (kinds_of words)) (sym is.0)
        (still_among _ _ _ among),
  )
]

-- clap has taken them, and they mean no options
pub refused_by_value : (words : List Text) (e : Error) → fault_of gateway words ≡ []
    → kind_of e ≡ ValueValidation → ((o : Options) → ¬ (IsGiven (subcommand_of gateway words) o))
    → IsRefused words (Line e)
refused_by_value words e taken kind none = (
  (λ o meant. none o meant.1),
  subst (IsAmong (kind_of e)) (sym (ap (λ ks. or_else ks (ValueValidation ∷ [])) taken)) (inl kind),
)

-- as the call gives it on
pub residual_refused : {T : Type 0} (words : List Text) (e : Error) (r : Result T LineFault)
    → HasKind (fault_of gateway words) e → IsErrAnd r (IsFaultOf e) → IfErr r (IsRefused words)
residual_refused words e (Ok x) kind is = tt
residual_refused words e (Err fault) kind is = refused_by_clap words e fault kind is
