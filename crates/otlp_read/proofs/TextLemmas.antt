-- What the bytes of a request say, by what `serde_json` reads from them.
use Rattle.std.proofs.Common.{◌≡◌, ℕ, List, Some, None, option_map, Result, Ok, Err, ap, ◌∙◌, inl}
use Rattle.std.proofs.Common.{inr}
use Rattle.std.specs.Prelude.{IsUtf8}
use Rattle.std.specs.Str.{is_utf8}
use Rattle.std.proofs.lemmas.Bool.{cases_Bool, cond-true, cond-false}
use Rattle.std.proofs.lemmas.Str.{IsUtf8-from_is_utf8, is_utf8-from_IsUtf8}
use Rattle.serde_json.specs.Data.{Data}
use Rattle.serde_json.specs.Read.{read}
use Rattle.otlp_read.specs.declared.fault.ReadFault.{ReadFault}
use Rattle.otlp_read.specs.declared.fault.ReadFault.TheVariants as faults
use Rattle.otlp_read.specs.declared.reading.Reading.{Reading}
use Rattle.otlp_read.specs.inner.Containers.{Gives}
use Rattle.otlp_read.specs.Tallies.{tally}
use Rattle.otlp_read.specs.Reading.{reading, text_reading, Answers}

-- the text of a value says what the value does
pub says : (bytes : List ℕ) (d : Data) → IsUtf8 bytes → read bytes ≡ Some d
    → text_reading bytes ≡ Some (reading d)
unfolding text_reading
says bytes d text is =
    cond-true (is_utf8 bytes) (option_map reading (read bytes)) None
    (is_utf8-from_IsUtf8 bytes text) ∙ ap (option_map reading) is

-- bytes that are the text of no value say nothing
pub says_nothing : (bytes : List ℕ) → (IsUtf8 bytes → read bytes ≡ None) → text_reading bytes ≡ None
unfolding text_reading
says_nothing bytes none =
    elim (cases_Bool (is_utf8 bytes)) [
      | inl valid ↦
          cond-true (is_utf8 bytes) (option_map reading (read bytes)) None valid
          ∙ ap (option_map reading) (none (IsUtf8-from_is_utf8 bytes valid))
      | inr wrong ↦ cond-false (is_utf8 bytes) (option_map reading (read bytes)) None wrong
    ]

-- what a value gives is what its text says
pub answers : (bytes : List ℕ) (d : Data) (r : Result Reading ReadFault)
    → text_reading bytes ≡ Some (reading d) → Gives tally r (reading d) → Answers bytes r
answers bytes d (Ok out) said gives = said ∙ ap (λ x. Some x) gives
answers bytes d (Err faults.NoMemory) said gives = tt
answers bytes d (Err faults.NotJson) said gives = absurd gives
answers bytes d (Err (faults.WrongShape place)) said gives = said ∙ ap (λ x. Some x) gives
