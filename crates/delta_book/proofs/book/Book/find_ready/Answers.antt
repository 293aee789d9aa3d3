use Rattle.std.proofs.Common.{◌≡◌, ◌∙◌, ap, sym, length, Bool}
use Rattle.std.specs.Prelude.{nat_lt}
use Rattle.delta_book.proofs.Takes.{none_ready, over_in, passed_to, some_ready}
use Rattle.delta_book.proofs.book.Book.find_ready.Goals as goal

pub first_place-place-requires : goal.first_place-place-requires
first_place-place-requires c = over_in c.self.inside c.deref.result.now c.deref-2.result.now
    c.self.invariant c.deref.ensures.value c.deref-2.ensures.value

pub invariant_of-self : goal.invariant_of-self
invariant_of-self c = passed_to c.self.inside c.deref.result.now c.deref-2.result.now
    c.first_place-place.result c.self.invariant c.deref.ensures.value c.deref-2.ensures.value
    c.first_place-place.ensures.none

-- there is a place exactly where a cell is ready
is_place : (c : goal.After-len) (v : Bool) → nat_lt c.first_place-place.result c.len.result ≡ v
    → nat_lt c.first_place-place.result (length c.deref.result.now) ≡ v
is_place c v e = ap (nat_lt c.first_place-place.result)
    (ap length c.deref.ensures.value ∙ sym (c.len.ensures ∙ c.self.inside.cells.ok.0)) ∙ e

pub returns-clause-nothing : goal.returns-clause-nothing
returns-clause-nothing c = λ e max. none_ready c.self.inside c.deref.result.now c.deref-2.result.now
    c.args.self.now max _ c.self.invariant c.self.view_is c.first_place-place.ensures.some
    c.deref.ensures.value c.deref-2.ensures.value (is_place c _ e)

pub returns-clause-some : goal.returns-clause-some
returns-clause-some c = λ e max m. some_ready c.self.inside c.deref.result.now c.deref-2.result.now
    c.args.self.now max _ c.self.invariant c.self.view_is m c.first_place-place.ensures.some
    c.deref.ensures.value c.deref-2.ensures.value (is_place c _ e)
