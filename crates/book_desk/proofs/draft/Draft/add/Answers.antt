use Rattle.std.proofs.Common.{◌≡◌, ◌++◌, ◌∷◌, [], List, Option, length, true, sym, ap, subst, arith}
use Rattle.std.proofs.Common.{rules, length-append}
use Rattle.std.proofs.lemmas.List.{with_items_is}
use Rattle.metric_events.specs.DataPoint.{DataPoint}
use Rattle.book_desk.specs.declared.part.Part.{Part}
use Rattle.book_desk.specs.Splits.{AreSplit}
use Rattle.book_desk.specs.Windows.{is_within, within}
use Rattle.book_desk.proofs.Drafted.{inside}
use Rattle.book_desk.proofs.draft.Draft.add.Goals as goal

pub returns-clause-read : goal.returns-clause-read
returns-clause-read c = λ t r.
    let w = c.args.self.now.window in
    let p = c.in-Some.point in
    let e : is_within w p ≡ true = search rules in
    let more : within w (t.points ++ p ∷ []) ≡ within w t.points ++ p ∷ [] =
    inside w t.points p e in
    rw c.in-Some.is (record {
      split = subst (λ (qs : List (Option Part)). AreSplit qs (within w (t.points ++ p ∷ [])))
          (sym (with_items_is c.args.self.now.parts c.put_home.new.parts
          (omega (arith, c.put_home.ensures.books, c.deref_mut.ensures.len))))
          (subst (λ (xs : List DataPoint). AreSplit c.put_home.new.parts xs) (sym more)
          (c.in_ok-put_home.ensures.split (within w t.points)
          (rw c.deref_mut.ensures.value r.split) r.points));
      points = omega (arith, ap length more, length-append (within w t.points) (p ∷ []), r.points);
      all = omega (arith, length-append t.points (p ∷ []), r.all);
      foreign = r.foreign;
    })
