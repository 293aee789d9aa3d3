-- What an answer rules out, for each form of message.
use Rattle.std.proofs.Common.{◌≡◌, ◌≢◌, ◌<◌, ℕ, List, [], ◌++◌, length, append_assoc, arith, Option}
use Rattle.std.proofs.Common.{Some, None, Ok, Err, inl, inr, refl, sym, ap, subst, ◌∙◌}
use Rattle.std.specs.Prelude.{Result, IfSome, ◌⊎◌, ⊤}
use Rattle.std.proofs.lemmas.List.{length-append}
use Rattle.std.proofs.lemmas.Option.{IfSome_then}
use Rattle.std.specs.Io.KnownBytes.{Consumes, IsAtEnd}
use Rattle.std.proofs.KnownBytes.{Consumes-whole}
use Rattle.http_edge.specs.declared.fault.HttpFault.{HttpFault}
use Rattle.http_edge.specs.declared.fault.HttpFault.TheVariants.{Closed, BodyTooLong, Io, NoMemory}
use Rattle.http_edge.specs.Form.{Form, IsAnswer, FaultSays, AnswerSays, Gives, Delivers, IsClosed}

-- a fault that says that the bytes begin with nothing yet
abbrev pub IsSilent : HttpFault → Type 0
IsSilent BodyTooLong = ⊥
IsSilent NoMemory = ⊥
IsSilent e = ⊤

-- what the lemmas need of a form
pub record Laws (M R : Type 0) (form : Form M R) : Type 0 where
  pub unique : (bytes : List ℕ) (m n : M) → form.begins bytes m → form.begins bytes n → m ≡ n
  pub exclusive : (bytes : List ℕ) (m : M) → form.begins bytes m → ¬ (form.not_yet bytes)
  pub silent : (e : HttpFault) (bytes : List ℕ) → IsSilent e → form.explains e bytes
      → form.not_yet bytes
  pub sized : (bytes : List ℕ) (m : M) → form.begins bytes m → ¬ (form.explains BodyTooLong bytes)
  pub some : (bytes : List ℕ) (m : M) → form.begins bytes m → bytes ≢ []
  pub some_sized : (bytes : List ℕ) → form.explains BodyTooLong bytes → bytes ≢ []
  pub memory : (bytes : List ℕ) → form.explains NoMemory bytes

-- a fault is out of memory, a size, or says that nothing is there yet
pub sort : (e : HttpFault) → (e ≡ NoMemory) ⊎ ((e ≡ BodyTooLong) ⊎ IsSilent e)
sort NoMemory = inl refl
sort BodyTooLong = inr (inl refl)
sort e = inr (inr tt)

only_memory_at : {M R : Type 0} (form : Form M R) (laws : Laws M R form) (e : HttpFault)
    (bytes : List ℕ) (m : M) → (e ≡ NoMemory) ⊎ ((e ≡ BodyTooLong) ⊎ IsSilent e)
    → form.explains e bytes → form.begins bytes m → e ≡ NoMemory
only_memory_at form laws e bytes m (inl is) x b = is
only_memory_at form laws e bytes m (inr (inl is)) x b =
    absurd (laws.sized bytes m b (subst (λ (f : HttpFault). form.explains f bytes) is x))
only_memory_at form laws e bytes m (inr (inr is)) x b =
    absurd (laws.exclusive bytes m b (laws.silent e bytes is x))

-- where the bytes begin with something, the only fault is out of memory
pub only_memory : {M R : Type 0} (form : Form M R) (laws : Laws M R form) (e : HttpFault)
    (bytes : List ℕ) (m : M) → form.explains e bytes → form.begins bytes m → e ≡ NoMemory
only_memory form laws e bytes m x b = only_memory_at form laws e bytes m (sort e) x b

pub gives : {M R : Type 0} (form : Form M R) (laws : Laws M R form) (bytes : List ℕ) (m : M)
    (r : Result R HttpFault) → IsAnswer form bytes r → form.begins bytes m → Gives form m r
gives form laws bytes m (Ok r) x b = laws.unique bytes (form.view r) m x b
gives form laws bytes m (Err e) x b = only_memory form laws e bytes m x b

-- ---- from what an answer says

fault_means : {M R : Type 0} (form : Form M R) (laws : Laws M R form) (e : HttpFault)
    (bytes : List ℕ) → FaultSays form e bytes → (e ≡ Io) ⊎ form.explains e bytes
fault_means form laws Io bytes x = inl refl
fault_means form laws NoMemory bytes x = inr (laws.memory bytes)
fault_means form laws Closed bytes x = inr x
fault_means form laws BodyTooLong bytes x = inr x
fault_means form laws e bytes x = inr x.1

-- what is said of all the bytes is an answer about them, unless a call failed
pub answer_said : {M R : Type 0} (form : Form M R) (laws : Laws M R form) (r : Result R HttpFault)
    (bytes : List ℕ) → AnswerSays form bytes r → (r ≡ Err Io) ⊎ IsAnswer form bytes r
answer_said form laws (Ok r) bytes x = inr x
answer_said form laws (Err e) bytes x =
    elim (fault_means form laws e bytes x)
    [ inl is ↦ inl (ap (λ (f : HttpFault). Err f) is) | inr a ↦ inr a ]

pub delivers : {M R : Type 0} (form : Form M R) (laws : Laws M R form) (bytes : List ℕ)
    (r : Result R HttpFault) → AnswerSays form bytes r → Delivers form bytes r
delivers form laws bytes r x m b =
    elim (answer_said form laws r bytes x)
    [ inl io ↦ inl io | inr a ↦ inr (gives form laws bytes m r a b) ]

closed_fault : {M R : Type 0} (form : Form M R) (laws : Laws M R form) (e : HttpFault)
    → FaultSays form e [] → (e ≡ Closed) ⊎ (e ≡ Io)
closed_fault form laws Closed x = inl refl
closed_fault form laws Io x = inr refl
closed_fault form laws BodyTooLong x = absurd (laws.some_sized [] x refl)
closed_fault form laws NoMemory x = absurd (x refl)
closed_fault form laws e x = absurd (x.0.0 refl)

pub closed_at_no_byte : {M R : Type 0} (form : Form M R) (laws : Laws M R form)
    (r : Result R HttpFault) → AnswerSays form [] r → IsClosed r
closed_at_no_byte form laws (Ok r) x = absurd (laws.some [] (form.view r) x refl)
closed_at_no_byte form laws (Err e) x =
    elim (closed_fault form laws e x) [
      | inl is ↦ inl (ap (λ (f : HttpFault). Err f) is)
      | inr is ↦ inr (ap (λ (f : HttpFault). Err f) is)
    ]

-- ---- to what an answer says

-- an answer about the bytes of a source, where they are known, unless a call failed
abbrev pub Said : {M R : Type 0} → Form M R → Option (List ℕ) → Result R HttpFault → Type 0
Said form old r = IfSome old (λ bytes. (r ≡ Err Io) ⊎ IsAnswer form bytes r)

-- there is a byte, unless the answer is Closed or a call failed
not_closed : {R : Type 0} (r : Result R HttpFault) (e : HttpFault) (bytes : List ℕ) → r ≡ Err e
    → (bytes ≡ [] → IsClosed r) → e ≢ Closed → e ≢ Io → bytes ≢ []
not_closed r e bytes is closed no_closed no_io h =
    elim (closed h) [
      | inl c ↦ let x : Err e ≡ Err Closed = sym is ∙ c in no_closed cc
      | inr c ↦ let x : Err e ≡ Err Io = sym is ∙ c in no_io cc
    ]

says_fault : {M R : Type 0} (form : Form M R) (laws : Laws M R form) (e : HttpFault)
    (bytes : List ℕ) → (e ≢ Closed → e ≢ Io → bytes ≢ []) → form.explains e bytes
    → FaultSays form e bytes
says_fault form laws Closed bytes some x = x
says_fault form laws BodyTooLong bytes some x = x
says_fault form laws Io bytes some x = tt
says_fault form laws NoMemory bytes some x = some (λ h. cc) (λ h. cc)
says_fault form laws e bytes some x = ((some (λ h. cc) (λ h. cc), laws.silent e bytes tt x), x)

says_of : {M R : Type 0} (form : Form M R) (laws : Laws M R form) (r : Result R HttpFault)
    (bytes : List ℕ) → (bytes ≡ [] → IsClosed r) → (r ≡ Err Io) ⊎ IsAnswer form bytes r
    → AnswerSays form bytes r
says_of form laws r bytes closed (inl io) = subst (AnswerSays form bytes) (sym io) tt
says_of form laws (Ok r) bytes closed (inr x) = x
says_of form laws (Err e) bytes closed (inr x) =
    says_fault form laws e bytes (not_closed (Err e) e bytes refl closed) x

pub says : {M R : Type 0} (form : Form M R) (laws : Laws M R form) (old : Option (List ℕ))
    (r : Result R HttpFault) → Said form old r → IfSome old (λ bytes. bytes ≡ [] → IsClosed r)
    → IfSome old (λ bytes. AnswerSays form bytes r)
says form laws None r x closed = tt
says form laws (Some bytes) r x closed = says_of form laws r bytes closed x

-- ---- about the front of a source

-- the bytes, where they are known, begin with these
abbrev pub BeginsAs : Option (List ℕ) → List ℕ → Type 0
BeginsAs old front = IfSome old (λ bytes. (left : List ℕ) × (bytes ≡ front ++ left))

-- where there is a byte, nothing has to be said of a source without one
pub not_empty : (old : Option (List ℕ)) (front : List ℕ) (P : Type 0) → BeginsAs old front
    → 0 < length front → IfSome old (λ bytes. bytes ≡ [] → P)
not_empty old front P is some = IfSome_then old is
    (λ bytes b e. absurd (omega (arith, ap length e, ap length b.1, length-append front b.0, some)))

pub known_front : (old now : Option (List ℕ)) (fed : List ℕ) → Consumes old now fed
    → BeginsAs old fed
known_front None now fed known = tt
known_front (Some bytes) None fed known = absurd known
known_front (Some bytes) (Some left) fed known = (left, known)

-- what more bytes do not change is said of all the bytes
pub said_of_front : {M R : Type 0} (form : Form M R) (old : Option (List ℕ)) (front : List ℕ)
    (r : Result R HttpFault) → BeginsAs old front
    → ((more : List ℕ) → IsAnswer form (front ++ more) r) → Said form old r
said_of_front form old front r is answers =
    IfSome_then old is
    (λ bytes b. inr (subst (λ (s : List ℕ). IsAnswer form s r) (sym b.1) (answers b.0)))

-- at its end the source has given all its bytes
pub said_at_end : {M R : Type 0} (form : Form M R) (old now : Option (List ℕ)) (fed : List ℕ)
    (r : Result R HttpFault) → Consumes old now fed → IsAtEnd now → IsAnswer form fed r
    → Said form old r
said_at_end form old now fed r known ended a =
    Consumes-whole old now fed (λ bytes. (r ≡ Err Io) ⊎ IsAnswer form bytes r) known ended (inr a)
