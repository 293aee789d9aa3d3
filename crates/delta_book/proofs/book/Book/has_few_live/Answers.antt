use Rattle.std.proofs.Common.{◌≡◌, ◌∙◌, ap, arith, length}
use Rattle.std.specs.Prelude.{nat_lt}
use Rattle.metric_events.specs.Running.{live_flushes}
use Rattle.metric_events.specs.declared.limits.TheConstants.{MAX_LIVE}
use Rattle.delta_book.specs.Journal.{journal_of, history}
use Rattle.delta_book.proofs.Entries.{flights_length}
use Rattle.delta_book.proofs.book.Book.has_few_live.Goals as goal

pub returns : goal.returns
returns c =
    let b = c.self.inside in
    let n : c.len.result ≡ length (live_flushes (history (journal_of b.opening b.entries.items))) =
    omega (
      arith,
      c.len.ensures,
      b.live.ok.0,
      flights_length b.entries.items b.live.items
          (live_flushes (history (journal_of b.opening b.entries.items))) c.self.invariant.live,
    )
    in
    ap (λ k. nat_lt k MAX_LIVE) n
    ∙ ap (λ xs. nat_lt (length (live_flushes (history xs))) MAX_LIVE) c.self.view_is
