-- What a decoder was fed of what a source gives.
use Rattle.std.proofs.Common.{◌≡◌, ◌≤◌, ℕ, List, [], ◌++◌, length, take, Option, Some, None, Err}
use Rattle.std.proofs.Common.{refl, ap, subst, arith, inl}
use Rattle.std.specs.Prelude.{Result, IfSome}
use Rattle.std.proofs.lemmas.List.{length-append, nil_from_length}
use Rattle.std.specs.Io.KnownBytes.{Consumes, IsAtEnd}
use Rattle.std.proofs.KnownBytes.{Consumes-nil, Consumes-trans}
use Rattle.http_edge.specs.declared.fault.HttpFault.{HttpFault}
use Rattle.http_edge.specs.declared.fault.HttpFault.TheVariants.{Closed, Truncated}
use Rattle.http_edge.specs.declared.request.Request.{Request}
use Rattle.http_edge.specs.Message.{Message}
use Rattle.http_edge.specs.Reading.{BeginsWith, NotYet}
use Rattle.http_edge.specs.Form.{IsAnswer, IsClosed}
use Rattle.http_edge.specs.Answer.{Explains, request_form, Fails}
use Rattle.http_edge.specs.Delivery.{IsStillOpen, StopsReading}
use Rattle.http_edge.specs.Holds.{Progress, Holds, IsSound, fault_in}
use Rattle.http_edge.proofs.FaultLemmas.{fails_more}
use Rattle.http_edge.proofs.MachineLemmas.{not_yet_in_head, start_is_sound}
use Rattle.http_edge.proofs.FormLemmas.{Said, known_front, said_of_front}
use Rattle.http_edge.proofs.AnswerLemmas.{answers_later}
use Rattle.http_edge.proofs.SourceLemmas.{stops}

-- the bytes at first are those that were fed and those that are left
pub record Fed (old now : Option (List ℕ)) (p : Progress) (fed : List ℕ) : Type 0 where
  pub holds : Holds p fed
  pub known : Consumes old now fed
  pub fine : fault_in p ≡ None
  pub is_open : NotYet fed

pub begins : (old : Option (List ℕ)) (p : Progress) → Holds p [] → fault_in p ≡ None
    → Fed old old p []
begins old p holds fine = record {
  holds = holds;
  known = Consumes-nil old;
  fine = fine;
  is_open =
      not_yet_in_head [] [] start_is_sound.0 refl;
}

pub goes_on : (old now next : Option (List ℕ)) (p q : Progress) (fed piece : List ℕ)
    → Fed old now p fed → Consumes now next piece → Holds q (fed ++ piece) → fault_in q ≡ None
    → NotYet (fed ++ piece) → Fed old next q (fed ++ piece)
goes_on old now next p q fed piece so took holds fine none =
    record {
      holds = holds;
      known = Consumes-trans old now next fed piece so.known took;
      fine =
          fine;
      is_open = none;
    }

pub stops_open : (old now next : Option (List ℕ)) (given n : ℕ) (p : Progress) (fed buf : List ℕ)
    → IsSound p → Fed old now p fed → Consumes now next (take n buf) → n ≤ length buf → given ≡ n
    → StopsReading IsStillOpen old next given
stops_open old now next given n p fed buf sound so took within is =
    stops IsStillOpen old now next given n fed buf so.known took within is
    (so.is_open, (p, (so.holds, sound, so.fine)))

-- once a message was fed
pub at_message : (old now : Option (List ℕ)) (fed : List ℕ) (r : Result Request HttpFault)
    (m : Message) → Consumes old now fed → BeginsWith fed m → IsAnswer request_form fed r
    → Said request_form old r
at_message old now fed r m known b x =
    said_of_front request_form old fed r (known_front old now fed known)
    (λ more. answers_later r fed more m b x)

-- once a fault was fed
pub at_fault : (old now next : Option (List ℕ)) (p : Progress) (fed piece : List ℕ) (e : HttpFault)
    → Fed old now p fed → Consumes now next piece → Fails e (fed ++ piece)
    → Said request_form old (Err e)
at_fault old now next p fed piece e so took f =
    said_of_front request_form old (fed ++ piece) (Err e)
    (known_front old next (fed ++ piece) (Consumes-trans old now next fed piece so.known took))
    (λ more. (fails_more e (fed ++ piece) more f).1)

-- where a message was fed, it is not cut
pub not_cut : (old next : Option (List ℕ)) (fed : List ℕ) (m : Message)
    (r : Result Request HttpFault) → BeginsWith fed m → IsAnswer request_form fed r
    → IfSome old (λ _. r ≡ Err Truncated → IsAtEnd next)
not_cut None next fed m r b a = tt
not_cut (Some bytes) next fed m r b a = λ e. let x : Explains Truncated fed =
    subst (IsAnswer request_form fed) e a in absurd (x.1 b.0 (Some b.1) b.2)

-- where there is no byte, nothing was fed
pub closed_at_end : (old now : Option (List ℕ)) (p : Progress) (fed : List ℕ)
    (r : Result Request HttpFault) → Fed old now p fed
    → (Holds p [] → fault_in p ≡ None → r ≡ Err Closed)
    → IfSome old (λ bytes. bytes ≡ [] → IsClosed r)
closed_at_end None now p fed r so closed = tt
closed_at_end (Some bytes) None p fed r so closed = absurd so.known
closed_at_end (Some bytes) (Some left) p fed r so closed = λ e.
    let none : length fed ≡ 0 =
    omega (arith, ap length so.known, ap length e, length-append fed left) in
    inl (closed (subst (Holds p) (nil_from_length fed none) so.holds) so.fine)
