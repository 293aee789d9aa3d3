use Rattle.std.proofs.Common.{rules}
use Rattle.serde_json.proofs.OnLiterals.{serde_json_on_literals}
use Rattle.out_texts.specs.Answers.{status_value}
use Rattle.out_texts.proofs.status.no_memory_text.Goals as goal

pub returns : goal.returns
unfolding serde_json_on_literals status_value
returns c = search rules
