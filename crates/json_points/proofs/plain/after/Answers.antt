use Rattle.std.proofs.Common.{◌∷◌, ap, sym, subst}
use Rattle.json.specs.Tape.{node_token}
use Rattle.json_points.specs.inner.Plain.{Plain}
use Rattle.json_points.proofs.PlainLemmas.{weaker, began_object, began_array, ended_object}
use Rattle.json_points.proofs.PlainLemmas.{ended_array}
use Rattle.json_points.proofs.plain.after.Goals as goal

pub returns-in-Object-clause-plain : goal.returns-in-Object-clause-plain
returns-in-Object-clause-plain c =
    weaker c.opened.result _ _ (λ n h ts plain. subst (λ t. Plain c.args.depth (t ∷ ts))
    (sym (ap node_token c.in-Object.is)) (began_object c.args.depth n ts h.0 h.1 plain))
    c.opened.ensures

pub returns-in-Array-clause-plain : goal.returns-in-Array-clause-plain
returns-in-Array-clause-plain c =
    weaker c.opened-in-Array.result _ _ (λ n h ts plain. subst (λ t. Plain c.args.depth (t ∷ ts))
    (sym (ap node_token c.in-Array.is)) (began_array c.args.depth n ts h.0 h.1 plain))
    c.opened-in-Array.ensures

pub returns-in-EndObject-clause-plain : goal.returns-in-EndObject-clause-plain
returns-in-EndObject-clause-plain c ts plain =
    subst (λ t. Plain c.args.depth (t ∷ ts)) (sym (ap node_token c.in-EndObject.is))
    (ended_object c.args.depth ts (subst (λ k. Plain k ts) c.saturating_sub.ensures plain))

pub returns-in-EndArray-clause-plain : goal.returns-in-EndArray-clause-plain
returns-in-EndArray-clause-plain c ts plain =
    subst (λ t. Plain c.args.depth (t ∷ ts)) (sym (ap node_token c.in-EndArray.is))
    (ended_array c.args.depth ts
    (subst (λ k. Plain k ts) c.saturating_sub-in-EndArray.ensures plain))

pub returns-in-Number-clause-plain : goal.returns-in-Number-clause-plain
unfolding Plain
returns-in-Number-clause-plain c =
    weaker c.if_in_range.result _ _ (λ n h ts plain. subst (λ t. Plain c.args.depth (t ∷ ts))
    (sym (ap node_token c.in-Number.is)) ((h.1, h.2), subst (λ k. Plain k ts) h.0 plain))
    c.if_in_range.ensures

pub returns-in-Key-clause-plain : goal.returns-in-Key-clause-plain
unfolding Plain
returns-in-Key-clause-plain c ts plain =
    subst (λ t. Plain c.args.depth (t ∷ ts)) (sym (ap node_token c.in-Key.is)) plain

pub returns-in-String-clause-plain : goal.returns-in-String-clause-plain
unfolding Plain
returns-in-String-clause-plain c ts plain =
    subst (λ t. Plain c.args.depth (t ∷ ts)) (sym (ap node_token c.in-String.is)) plain

pub returns-in-Bool-clause-plain : goal.returns-in-Bool-clause-plain
unfolding Plain
returns-in-Bool-clause-plain c ts plain =
    subst (λ t. Plain c.args.depth (t ∷ ts)) (sym (ap node_token c.in-Bool.is)) plain

pub returns-in-Null-clause-plain : goal.returns-in-Null-clause-plain
unfolding Plain
returns-in-Null-clause-plain c ts plain =
    subst (λ t. Plain c.args.depth (t ∷ ts)) (sym (ap node_token c.in-Null.is)) plain
