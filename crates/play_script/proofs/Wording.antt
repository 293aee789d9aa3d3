-- A line that has more words than its command.
use Rattle.std.proofs.Common.{◌≡◌, ℕ, ◌<◌, true, Option, sym, ap, ◌∙◌, List, [], ◌∷◌, length, Some}
use Rattle.std.proofs.Common.{None, refl, arith}
use Rattle.std.specs.List.{join_with_byte}
use Rattle.std.proofs.lemmas.List.Splits.{length-slice_split, join_with_byte-slice_split}
use Rattle.std.proofs.Common.{eqb}
use Rattle.std.specs.Option.{is_some}
use Rattle.play_script.specs.Pieces.{words}
use Rattle.play_script.specs.PointLines.{PointWords, point_words, name_of, point_of_words}
use Rattle.play_script.specs.PointLines.{with_point}
use Rattle.metric_events.specs.Senders.{is_sender_name}
use Rattle.play_script.specs.Run.{takes_memory}
use Rattle.play_script.specs.Commands as spec

pub some_words : (line : List ℕ) → 0 < length (words line)
some_words line = omega (arith, length-slice_split (λ b. eqb b 32) line)

-- there is a first word
pub first_word : (line : List ℕ)
    → (word : List ℕ) × (more : List (List ℕ)) × (words line ≡ word ∷ more)
first_word line = by (words line) (some_words line)
  where
    by : (ws : List (List ℕ)) → 0 < length ws
        → (word : List ℕ) × (more : List (List ℕ)) × (ws ≡ word ∷ more)
    by [] h = absurd (omega arith)
    by (word ∷ more) h = (word, more, refl)

pub only_number_more : (all : List (List ℕ)) (word rest : List ℕ) → all ≡ word ∷ words rest
    → None ≡ spec.only_number all
only_number_more all word rest h = rw (h, (first_word rest).2) refl

pub only_name_more : (all : List (List ℕ)) (word rest : List ℕ) → all ≡ word ∷ words rest
    → None ≡ spec.only_name all
only_name_more all word rest h = rw (h, (first_word rest).2) refl

pub nothing_more : (line : spec.Asked) (rest : List ℕ)
    → spec.BadLine ≡ spec.nothing_more line (words rest)
nothing_more line rest = rw (first_word rest).2 refl

good_words : (sender : List ℕ) (points : List PointWords) → is_sender_name sender ≡ true
    → 0 < length points
    → spec.AdmitLine sender points ≡ spec.admit_line (name_of sender) (Some points)
good_words sender [] named some = absurd (omega arith)
good_words sender (p ∷ ps) named some = rw named refl

good_points : (all : List (List ℕ)) (sender : List ℕ) (words : List (List ℕ))
    (points : List PointWords) → all ≡ sender ∷ words → is_sender_name sender ≡ true
    → point_words words ≡ Some points → 0 < length points
    → spec.AdmitLine sender points ≡ spec.admit_words all
good_points all sender words points h named are some =
    rw h (rw are (good_words sender points named some))

-- words that are points are at least one
some_points : (ws : List (List ℕ)) → 0 < length ws → is_some (point_words ws) ≡ true
    → (p : PointWords) × (ps : List PointWords) × (point_words ws ≡ Some (p ∷ ps))
some_points [] h some = absurd (omega arith)
some_points (a ∷ b ∷ c ∷ d ∷ ws) h some =
    at_least_one (point_of_words a b c d) (point_words ws) some
  where
    at_least_one : (p : Option PointWords) (ps : Option (List PointWords))
        → is_some (with_point p ps) ≡ true
        → (q : PointWords) × (qs : List PointWords) × (with_point p ps ≡ Some (q ∷ qs))
    at_least_one None ps h = cc
    at_least_one (Some p) None h = cc
    at_least_one (Some p) (Some ps) h = (p, ps, refl)
some_points ws h some = cc

-- a line of points may find no memory
pub points_take_memory : (all : List (List ℕ)) (sender points : List ℕ)
    → all ≡ sender ∷ words points → is_sender_name sender ≡ true
    → is_some (point_words (words points)) ≡ true → takes_memory (spec.admit_words all) ≡ true
points_take_memory all sender points h named some =
    let (p, ps, is) = some_points (words points) (some_words points) some in
    ap takes_memory (sym (good_points all sender (words points) (p ∷ ps) h named is (omega arith)))

-- the words of a text, with their spaces, are the text
pub good_post : (all : List (List ℕ)) (sender body : List ℕ) → all ≡ sender ∷ words body
    → is_sender_name sender ≡ true → spec.PostLine sender body ≡ spec.post_words all
good_post all sender body h named =
    let (word, more, is) = first_word body in
    ap (spec.PostLine sender) (sym (join_with_byte-slice_split 32 body) ∙ ap (join_with_byte 32) is)
    ∙ rw (h, is, named) refl

pub answer_in_more : (code : List ℕ) (all : List (List ℕ)) (word rest : List ℕ)
    → all ≡ word ∷ words rest → None ≡ spec.answer_in (code ∷ all)
answer_in_more code all word rest h = rw (h, (first_word rest).2) (by word)
  where
    by : (word : List ℕ)
        → None ≡ spec.answer_in (code ∷ word ∷ (first_word rest).0 ∷ (first_word rest).1)
    by [] = refl
    by (b ∷ bs) = refl
