-- What stands after several texts were put at the end, one after another.
use Rattle.std.proofs.Common.{◌≡◌, ◌∙◌, ℕ, List, ◌++◌, Result, Ok, Err, append_assoc, ap}
use Rattle.std.specs.Result.{OnOk}

pub put_two : {T E : Type 0} (r : Result T E) (old a b one new : List ℕ) → one ≡ old ++ a
    → OnOk r (new ≡ one ++ b) → OnOk r (new ≡ old ++ (a ++ b))
put_two (Ok x) old a b one new first second = second ∙ ap (λ m. m ++ b) first ∙ simp append_assoc
put_two (Err e) old a b one new first second = tt

pub put_three : {T E : Type 0} (r : Result T E) (old a b c one two new : List ℕ) → one ≡ old ++ a
    → two ≡ one ++ b → OnOk r (new ≡ two ++ c) → OnOk r (new ≡ old ++ (a ++ b ++ c))
put_three (Ok x) old a b c one two new first second third =
    third ∙ ap (λ m. m ++ c) (second ∙ ap (λ m. m ++ b) first) ∙ simp append_assoc
put_three (Err e) old a b c one two new first second third = tt
