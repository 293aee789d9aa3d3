-- What a book tells of earlier rounds.
use Rattle.std.proofs.Common.{◌≡◌, List, map, ap, sym, ◌∙◌, Ok, Err, Vec, Global}
use Rattle.std.specs.declared.result.Result.{Result}
use Rattle.std.specs.declared.alloc.AllocError.{AllocError}
use Rattle.std.specs.Result.{IfOk}
use Rattle.metric_events.specs.declared.opened_series.OpenedSeries.{OpenedSeries}
use Rattle.metric_events.specs.declared.opening.Opening.{Opening}
use Rattle.delta_book.specs.declared.totals.PastTotals.{PastTotals}
use Rattle.delta_book.specs.PastRows.{PastRow, past_row, past_of, past_rows}
use Rattle.delta_book.specs.Journal.{Journal, history}
use Rattle.delta_book.proofs.Journaled.{opening-history}

pub if_rows : (r : Result (Vec PastTotals Global) AllocError) (ts us : List PastRow)
    → IfOk r (λ v. map past_row v.items ≡ ts) → ts ≡ us → IfOk r (λ v. map past_row v.items ≡ us)
if_rows (Ok v) ts us h e = h ∙ e
if_rows (Err x) ts us h e = tt

pub rows_of : (j old : Journal) (ss : List OpenedSeries) → j ≡ old → ss ≡ j.opening.series
    → map past_of ss ≡ past_rows (history old)
rows_of j old ss v e = ap (map past_of)
    (e ∙ ap (λ (O : Opening). O.series) (sym (opening-history j)))
    ∙ ap (λ k. past_rows (history k)) v
