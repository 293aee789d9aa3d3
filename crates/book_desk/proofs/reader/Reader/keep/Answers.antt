use Rattle.std.proofs.Common.{refl, sym}
use Rattle.otlp_read.specs.Tallies.{tally}
use Rattle.book_desk.specs.inner.Alone.{alone}
use Rattle.book_desk.proofs.Drafted.{all_points, kept_of}
use Rattle.book_desk.proofs.reader.Reader.keep.Goals as goal

pub invariant_of-self : goal.invariant_of-self
invariant_of-self c = all_points
    _ _ _ _ (c.into_parts.ensures (alone c.as_slice-points.result.now) c.in-Ok.ensures.read)

pub returns-clause-kept : goal.returns-clause-kept
returns-clause-kept c =
    let made = c.in-Ok.ensures in
    kept_of c.in-Ok.draft c.args.books c.args.sender c.args.window
    (alone c.as_slice-points.result.now) (tally c.args.reading.now) _ c.into_parts.result.items
    made.read c.into_parts.ensures made.books made.sender made.window c.requires.named
    (sym c.as_slice-points.ensures.value) refl refl refl
