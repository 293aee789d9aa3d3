use Rattle.std.proofs.Common.{rules, w64}
use Rattle.std.proofs.lemmas.Int.{to_z-of_z}
use Rattle.std.specs.Prelude.{FitsSigned}
use Rattle.json_points.proofs.MemberLemmas.{text_alone, truth_alone, int_alone}
use Rattle.json_points.proofs.values.only_scalar.Goals as goal

pub returns-in_ok-as_str : goal.returns-in_ok-as_str
returns-in_ok-as_str c = text_alone _ _ c.in-Some.field-0.name.now _ c.in-Some.ensures
    c.if-is_named.ensures c.in_ok-as_str.ensures

pub returns-in_ok-signed_64 : goal.returns-in_ok-signed_64
returns-in_ok-signed_64 c =
    let f : FitsSigned w64 c.in_ok-signed_64.field-0 = search rules in
    rw (to_z-of_z) (int_alone _ _ c.in-Some.field-0.name.now _ c.in-Some.ensures
    c.if-is_named-2.ensures c.in_ok-signed_64.ensures)

pub returns-in_ok-as_bool : goal.returns-in_ok-as_bool
returns-in_ok-as_bool c = truth_alone _ _ c.in-Some.field-0.name.now _ c.in-Some.ensures
    c.if-is_named-3.ensures c.in_ok-as_bool.ensures
