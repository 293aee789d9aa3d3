use Rattle.std.proofs.Common.{ℕ, List, subst}
use Rattle.otlp_read.specs.Tallies.{tally}
use Rattle.book_desk.specs.Reads.{IsKept}
use Rattle.book_desk.proofs.reader.Reader.read.Goals as goal

pub returns-clause-read : goal.returns-clause-read
returns-clause-read c = (
  tally c.in-Ok-read_request_with.reading,
  c.in-Ok-read_request_with.ensures,
  subst (λ (s : List ℕ). IsKept c.args.books s c.args.window
      (tally c.in-Ok-read_request_with.reading) c.in-Ok-keep.counts c.keep.new.self)
      c.in-Ok.ensures.value c.in-Ok-keep.ensures.kept,
)
