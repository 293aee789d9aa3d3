use Rattle.std.proofs.Common.{[], ap, refl, ◌∙◌, ◌≡◌}
use Rattle.std.specs.Prelude.{unwrap_or}
use Rattle.http.specs.StatusCode.{reason_phrase}
use Rattle.http_edge.proofs.TextLemmas.{phrase_is, phrase_is_short}
use Rattle.http_edge.proofs.write.phrase_of.Goals as goal

pub returns : goal.returns
returns c =
    let is : c.unwrap_or.result.now ≡ unwrap_or (reason_phrase c.args.status) [] =
    phrase_is c.canonical_reason.result _ c.unwrap_or.result c.unwrap_or.ensures refl
    ∙ ap (λ o. unwrap_or o []) c.canonical_reason.ensures.value in
    record { value = is; short = phrase_is_short c.args.status c.unwrap_or.result.now is }
