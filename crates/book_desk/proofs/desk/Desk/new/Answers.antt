use Rattle.std.proofs.Common.{◌≡◌, ◌+◌, ◌∙◌, [], length, ap, subst, sym}
use Rattle.std.specs.List.{All}
use Rattle.std.proofs.lemmas.List.{length_push}
use Rattle.std.proofs.lemmas.List.Elements.{All-push}
use Rattle.delta_book.specs.Journal.{journal_of}
use Rattle.metric_events.specs.Opening.{first_opening}
use Rattle.book_desk.proofs.desk.Desk.new.Goals as goal

pub loop-preserved : goal.loop-preserved
loop-preserved c =
    record {
      count = ap length c.in_ok-push.ensures.items
          ∙ (length_push c.loop.books.items _ ∙ ap (λ n. n + 1) c.loop.invariant.count);
      books = subst (All (λ b. b ≡ journal_of first_opening [])) (sym c.in_ok-push.ensures.items)
          (All-push (λ b. b ≡ journal_of first_opening []) c.loop.books.items
          _ c.loop.invariant.books c.in_ok-new.ensures);
    }
