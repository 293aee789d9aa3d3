-- Bytes wait before they are written.
use Rattle.std.proofs.Common.{◌≡◌, ℕ, ◌+◌, ◌<◌, List, [], ◌++◌, length, take, get_or, Option, Some}
use Rattle.std.proofs.Common.{None, sym, ap, subst, ◌∙◌, append_assoc, arith, zero, suc, zero-add}
use Rattle.std.specs.Io.KnownBytes.{Appends, Keeps}
use Rattle.std.proofs.KnownBytes.{Appends-trans}
use Rattle.std.proofs.Math.Seq.{take-append-add}
use Rattle.std.proofs.lemmas.List.{append-nil, length-append, take_more, take-append-le}
use Rattle.std.proofs.lemmas.List.{flat_map_more}
use Rattle.std.specs.List.{flat_map}
use Rattle.http_edge.specs.declared.write_buffer.WriteBuffer.{WriteBuffer}
use Rattle.http_edge.specs.declared.written.Written.{Written}
use Rattle.http_edge.specs.declared.written.Written.TheVariants.{All, None_, Part}
use Rattle.http_edge.specs.Sent.{Sent}
use Rattle.http_edge.specs.inner.Sent.{IsCut, Ends, cut_after}
use Rattle.http_edge.specs.inner.WriteBuffer.{waiting_bytes, Passes}

-- how much was sent or waits
pub passes_length : (o n : Option (List ℕ)) (sent : ℕ) (j : WriteBuffer) (bytes : List ℕ)
    → Passes o n sent j bytes → j.sent + length (waiting_bytes j) ≡ sent + length bytes
passes_length o n sent j bytes p =
    omega (arith, p.count, ap length p.rest, length-append p.done (waiting_bytes j))

-- some bytes behind others
pub passes_then : (o m n : Option (List ℕ)) (sent : ℕ) (j k : WriteBuffer) (bytes part : List ℕ)
    → Passes o m sent j bytes → Passes m n j.sent k (waiting_bytes j ++ part)
    → Passes o n sent k (bytes ++ part)
passes_then o m n sent j k bytes part p q = record {
  done = p.done ++ q.done;
  taken = Appends-trans o m n p.done q.done p.taken q.taken;
  rest = ap (λ x. x ++ part) p.rest
      ∙ (append_assoc p.done (waiting_bytes j) part
      ∙ (ap (λ x. p.done ++ x) q.rest ∙ sym (append_assoc p.done q.done (waiting_bytes k))));
  count = omega (arith, p.count, q.count, length-append p.done q.done);
}

-- cut in what came behind
pub passes_cut : (o m n : Option (List ℕ)) (sent : ℕ) (j : WriteBuffer) (bytes part : List ℕ)
    (w : Written) → Passes o m sent j bytes → IsCut m n j.sent (waiting_bytes j ++ part) w
    → IsCut o n sent (bytes ++ part) w
passes_cut o m n sent j bytes part w p c =
    let whole : bytes ++ part ≡ p.done ++ (waiting_bytes j ++ part) =
    ap (λ x. x ++ part) p.rest ∙ append_assoc p.done (waiting_bytes j) part in
    let first = ap (take (length p.done + c.many)) whole
    ∙ take-append-add p.done (waiting_bytes j ++ part) c.many in
    record {
      many = length p.done + c.many;
      fewer =
          omega (arith, c.fewer, ap length whole, length-append p.done (waiting_bytes j ++ part));
      taken = subst (Appends o n) (sym first)
          (Appends-trans o m n p.done (take c.many (waiting_bytes j ++ part)) p.taken c.taken);
      answer_is = c.answer_is ∙ ap cut_after (omega (arith, p.count));
    }

none_waits : (j : WriteBuffer) → j.len ≡ 0 → waiting_bytes j ≡ []
none_waits j e = ap (λ k. take k j.bytes) e

-- a part that was written at once, where none waits
pub passes_at_once : (o m n : Option (List ℕ)) (sent : ℕ) (j k : WriteBuffer) (bytes part : List ℕ)
    → Passes o m sent j bytes → j.len ≡ 0 → k.len ≡ 0 → k.sent ≡ j.sent + length part
    → Appends m n part → Passes o n sent k (bytes ++ part)
passes_at_once o m n sent j k bytes part p e f count a =
    passes_then o m n sent j k bytes part p (record {
      done = part;
      taken = a;
      rest = ap (λ x. x ++ part) (none_waits j e)
          ∙ (sym (append-nil part) ∙ ap (λ x. part ++ x) (sym (none_waits k f)));
      count = count;
    })

-- cut in a part that was written at once, where none waits
pub cut_at_once : (o m n : Option (List ℕ)) (sent : ℕ) (j : WriteBuffer) (bytes part : List ℕ)
    (w : Written) → Passes o m sent j bytes → j.len ≡ 0 → IsCut m n j.sent part w
    → IsCut o n sent (bytes ++ part) w
cut_at_once o m n sent j bytes part w p e c =
    passes_cut o m n sent j bytes part w p
    (subst (λ (x : List ℕ). IsCut m n j.sent x w) (sym (ap (λ x. x ++ part) (none_waits j e)))
    c)

-- cut before what would have come behind
pub cut_before : (o n : Option (List ℕ)) (sent : ℕ) (bytes later : List ℕ) (w : Written)
    → IsCut o n sent bytes w → IsCut o n sent (bytes ++ later) w
cut_before o n sent bytes later w c = record {
  many = c.many;
  fewer = omega (arith, c.fewer, length-append bytes later);
  taken = subst (Appends o n) (sym (take-append-le c.many bytes later (omega (arith, c.fewer))))
      c.taken;
  answer_is = c.answer_is;
}

keeps_of : (o n : Option (List ℕ)) → Appends o n [] → Keeps o n
keeps_of None n a = tt
keeps_of (Some x) None a = absurd a
keeps_of (Some x) (Some y) a = a ∙ append-nil x

sent_part : (o n : Option (List ℕ)) (full : List ℕ) (k : ℕ) → Appends o n (take k full)
    → k < length full → Sent o n full (cut_after k)
sent_part o n full zero a l = keeps_of o n a
sent_part o n full (suc k) a l = (a, omega arith, l)

sent_cut : (o n : Option (List ℕ)) (full : List ℕ) (w : Written) → IsCut o n 0 full w
    → Sent o n full w
sent_cut o n full w c = rw (c.answer_is, zero-add) (sent_part o n full c.many c.taken c.fewer)

-- cut in one of the parts
pub sent_cut_in : (o m n : Option (List ℕ)) (j : WriteBuffer) (before part later full : List ℕ)
    (w : Written) → Passes o m 0 j before → IsCut m n j.sent (waiting_bytes j ++ part) w
    → full ≡ before ++ (part ++ later) → Sent o n full w
sent_cut_in o m n j before part later full w p c e =
    rw (e, ← append_assoc before part later)
    (sent_cut o n ((before ++ part) ++ later) w
    (cut_before o n 0 (before ++ part) later w (passes_cut o m n 0 j before part w p c)))

-- at the end of the parts
pub sent_at_end : (o m n : Option (List ℕ)) (j : WriteBuffer) (full : List ℕ) (w : Written)
    → Passes o m 0 j full → Ends m n j.sent (waiting_bytes j) w → Sent o n full w
sent_at_end o m n j full All p a =
    subst (Appends o n) (sym p.rest) (Appends-trans o m n p.done (waiting_bytes j) p.taken a)
sent_at_end o m n j full None_ p c =
    sent_cut_in o m n j full [] [] full None_ p (rw append-nil c) (sym (append-nil full))
sent_at_end o m n j full (Part k) p c =
    sent_cut_in o m n j full [] [] full (Part k) p (rw append-nil c) (sym (append-nil full))

-- one part more
pub next_part : {X : Type 0} (f : X → List ℕ) (xs : List X) (i : ℕ) (x : X) → i < length xs
    → flat_map f (take (i + 1) xs) ≡ flat_map f (take i xs) ++ f (get_or xs i x)
next_part f xs i x within = ap (flat_map f) (take_more xs i x within)
    ∙ sym (flat_map_more f [] (take i xs) (get_or xs i x))
