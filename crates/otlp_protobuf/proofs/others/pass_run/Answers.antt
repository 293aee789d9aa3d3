use Rattle.std.proofs.Common.{ap, map, subst, sym, ◌++◌, ◌≡◌, ◌∙◌}
use Rattle.otlp_protobuf.specs.Fields.{contents}
use Rattle.otlp_protobuf.specs.inner.Runs.{attribute, others}
use Rattle.otlp_protobuf.specs.inner.RunViews.{messages_of, run_messages, Sees}
use Rattle.otlp_protobuf.specs.inner.Views.{fields_data}
use Rattle.otlp_protobuf.proofs.RunLemmas.{contents_run, others_run}
use Rattle.otlp_protobuf.proofs.others.pass_run.Goals as goal

pub returns-in-Some-after_run-clause-same : goal.returns-in-Some-after_run-clause-same
returns-in-Some-after_run-clause-same c =
    let F = fields_data c.in-Some-after_run.after in
    let ms = run_messages c.in-Some.run'.now in
    let split =
    c.in-Some-after_run.ensures ∙ ap (λ n. map (attribute n) ms ++ F) c.if-run-number.true in
    sym (ap (others c.args.number) split ∙ others_run c.args.number ms F)

pub returns-in-Some-after_run-clause-seen : goal.returns-in-Some-after_run-clause-seen
returns-in-Some-after_run-clause-seen c = λ all is.
    let F = fields_data c.in-Some-after_run.after in
    let ms = run_messages c.in-Some.run'.now in
    let split =
    c.in-Some-after_run.ensures ∙ ap (λ n. map (attribute n) ms ++ F) c.if-run-number.true in
    let none : contents c.args.number (fields_data c.args.rest.now) ≡ all =
    subst (λ s. Sees (messages_of c.args.known) s
    (contents c.args.number (fields_data c.args.rest.now)) all) c.in-None.is is in
    ap (λ k. messages_of k ++ contents c.args.number F) c.in-Some.is
    ∙ sym (contents_run c.args.number ms F) ∙ ap (contents c.args.number) (sym split) ∙ none
