use Rattle.std.proofs.Common.{◌≤◌, subst, sym, arith}
use Rattle.std.specs.List.{All}
use Rattle.std.proofs.lemmas.List.Elements.{recursion_from_All}
use Rattle.std.proofs.lemmas.Result.{IfOk-weaker}
use Rattle.serde_json.specs.Data.{depth}
use Rattle.serde_json.specs.Read.{max_depth}
use Rattle.metric_events.specs.DataPoint.{IsMerged}
use Rattle.out_texts.specs.Request.{request_value}
use Rattle.out_texts.specs.Back.{ReadsBack}
use Rattle.out_texts.proofs.Whole.{request_whole}
use Rattle.out_texts.proofs.RequestAgain.{text_again}
use Rattle.out_texts.proofs.EachOnce.{each_once}
use Rattle.out_texts.proofs.request.request_text.Goals as goal

pub text_of-requires : goal.text_of-requires
text_of-requires c = rw c.in_ok-value.ensures (request_whole _).0

pub returns-clause-back : goal.returns-clause-back
returns-clause-back c =
    let ps = c.as_slice-points.result.now in
    let merged = recursion_from_All IsMerged ps
    (subst (All IsMerged) (sym c.as_slice-points.ensures.value) c.as_slice-points.ensures.made)
    in
    let shallow : depth (request_value ps) ≤ max_depth = omega (arith, (request_whole ps).1) in
    let json = (rw c.in_ok-value.ensures at c.text_of.ensures.back) shallow in
    IfOk-weaker c.text_of.result _ _ (λ text is. subst (ReadsBack text.items)
    c.as_slice-points.ensures.value (text_again ps text.items merged is)) json

pub returns-clause-once : goal.returns-clause-once
returns-clause-once c = each_once _

pub returns-in_err-value-clause-once : goal.returns-in_err-value-clause-once
returns-in_err-value-clause-once c = each_once _
