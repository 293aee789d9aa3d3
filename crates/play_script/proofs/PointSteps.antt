-- The points of a line, one by one.
use Rattle.std.proofs.Common.{◌≡◌, ℕ, ◌<◌, ◌==◌, Bool, true, false, not, is_none, if◌then◌else◌}
use Rattle.std.proofs.Common.{nat_lt, length, List, [], ◌∷◌, ◌++◌, get_or, Option, Some, None, zero}
use Rattle.std.proofs.Common.{suc, refl, sym, ap, ◌∙◌, append_assoc, arith}
use Rattle.std.specs.Option.{option_map, is_some}
use Rattle.std.specs.List.{list_all}
use Rattle.std.specs.Str.{IsUtf8}
use Rattle.std.proofs.lemmas.Str.{IsUtf8-from_ascii}
use Rattle.std.proofs.lemmas.Bool.{and_parts}
use Rattle.std.proofs.lemmas.Bool.Decides.{nat_tests}
use Rattle.metric_events.specs.Senders.{is_sender_name, is_name_byte}
use Rattle.metric_events.specs.declared.sender_name.NameFault.TheVariants.{Empty, TooLong, BadByte}
use Rattle.play_script.specs.PointLines.{PointWords, with_point}

name_byte_small : (b : ℕ) → is_name_byte b ≡ true → b < 128
name_byte_small b h = grind (arith, nat_tests)

names_are_ascii : (bs : List ℕ) → list_all is_name_byte bs ≡ true → (i : ℕ) → get_or bs i 0 < 128
names_are_ascii [] h i = omega arith
names_are_ascii (b ∷ bs) h zero = name_byte_small b (and_parts _ _ h).0
names_are_ascii (b ∷ bs) h (suc i) = names_are_ascii bs (and_parts _ _ h).1 i

good_bytes : (empty long good : Bool)
    → is_none (if empty then Some Empty else
    (if long then Some TooLong else (if not good then Some BadByte else None))) ≡ true
    → good ≡ true
good_bytes false false true h = refl
good_bytes empty long good h = cc

pub name_is_text : (bs : List ℕ) → is_sender_name bs ≡ true → IsUtf8 bs
name_is_text bs h = IsUtf8-from_ascii bs
    (names_are_ascii bs
    (good_bytes (length bs == 0) (nat_lt 64 (length bs)) (list_all is_name_byte bs) h))

-- these points, before those that are still to be read, are all
abbrev pub ReadSoFar : List PointWords → Option (List PointWords) → Option (List PointWords)
    → Type 0
ReadSoFar read left all = option_map (λ more. read ++ more) left ≡ all

pub one_read : (read more : List PointWords) (p : PointWords)
    (left rest all : Option (List PointWords)) → more ≡ read ++ p ∷ []
    → left ≡ with_point (Some p) rest → ReadSoFar read left all → ReadSoFar more rest all
one_read read more p left None all grown h so_far =
    ap (option_map (λ m. read ++ m)) (sym h) ∙ so_far
one_read read more p left (Some rest) all grown h so_far =
    ap Some (ap (λ m. m ++ rest) grown ∙ append_assoc read (p ∷ []) rest)
    ∙ ap (option_map (λ m. read ++ m)) (sym h) ∙ so_far

pub some_after : (p : PointWords) (left rest : Option (List PointWords))
    → left ≡ with_point (Some p) rest → is_some rest ≡ is_some left
some_after p left None h = ap is_some (sym h)
some_after p left (Some rest) h = ap is_some (sym h)
