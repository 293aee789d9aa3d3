use Rattle.std.proofs.Common.{ap, sym, ◌∙◌}
use Rattle.otlp_read.specs.Reading.{text_reading}
use Rattle.json_points.proofs.TextLemmas.{if_ok_weaker}
use Rattle.json_points.proofs.walk.read_bytes.Goals as goal

pub returns-then-bytes-le-MOST_KEPT : goal.returns-then-bytes-le-MOST_KEPT
returns-then-bytes-le-MOST_KEPT c =
    if_ok_weaker c.read_text.result _ _ (λ r h. ap text_reading (sym c.in-Ok.ensures.cases.0) ∙ h)
    c.read_text.ensures

pub returns-else-bytes-le-MOST_KEPT : goal.returns-else-bytes-le-MOST_KEPT
returns-else-bytes-le-MOST_KEPT c =
    if_ok_weaker c.read_text-else-bytes-le-MOST_KEPT.result
    _ _ (λ r h. ap text_reading (sym c.in-Ok.ensures.cases.0) ∙ h)
    c.read_text-else-bytes-le-MOST_KEPT.ensures
