-- What stands alike, and what does not, worked out by the definitions.
use Rattle.std.proofs.Common.{◌≡◌, ℕ, ◌==◌, Bool, [], ◌∷◌, refl, true, false, List}
use Rattle.std.specs.List.{filter}
use Rattle.series_id.specs.Order.{same_series, series_before, series_cmp, scope_cmp, metric_cmp}
use Rattle.metric_events.specs.History.{History, Start, Opened, ◌▸◌, ◌then◌}
use Rattle.metric_events.specs.Points.{points, is_home}
use Rattle.metric_events.specs.Running.{open_batches}
use Rattle.metric_events.specs.Series.{owner, frontier, of_series}
use Rattle.metric_events.specs.Standing.{sum_where}
use Rattle.metric_events.specs.Close.{close}
use Rattle.metric_events.specs.Choice.{pick, flush_points}
use Rattle.metric_events.specs.Recovery.{homes, pending, not_pending, is_not_home, all_points}
use Rattle.metric_events.specs.Recovery.{are_in_turn, readmitted, Numbered}
use Rattle.metric_events.specs.Congruence.{home_hull}
use Rattle.metric_events.specs.Recall.{unfolded}
use Rattle.metric_events.specs.Unflushed.{unflushed, survived}
use Rattle.metric_events.specs.declared.event.Event.TheVariants.{Admit, Confirm, Take, Settle}
use Rattle.metric_events.proofs.WorkedHistories.{of_name, req, point, batch}

-- round 1 took two points and was closed before they were flushed; a fresh history takes both
-- batches again
abbrev posts : List Numbered
posts = record { number = 1; body = batch 65 (point req 10 20 5 ∷ []) }
    ∷ record { number = 2; body = batch 65 (point req 20 30 7 ∷ []) } ∷ []

abbrev lost_late : History
lost_late = Opened (close (readmitted Start posts))

abbrev fresh : History
fresh = readmitted Start posts

same_owner : owner req (points fresh) ≡ owner req (points lost_late)
unfolding same_series series_before series_cmp scope_cmp metric_cmp
same_owner = refl

same_frontier : frontier req (points fresh) ≡ frontier req (points lost_late)
unfolding same_series series_before series_cmp scope_cmp metric_cmp
same_frontier = refl

same_sum : sum_where is_home req (points fresh) ≡ sum_where is_home req (points lost_late)
unfolding same_series series_before series_cmp scope_cmp metric_cmp
same_sum = refl

same_hull : home_hull req fresh ≡ home_hull req lost_late
unfolding same_series series_before series_cmp scope_cmp metric_cmp
same_hull = refl

-- a flush sends the same after both
sent_late : flush_points (lost_late ▸ Take 9 (req ∷ [])) 9
    ≡ flush_points (fresh ▸ Take 3 (req ∷ [])) 3
unfolding same_series series_before series_cmp scope_cmp metric_cmp
sent_late = refl

-- the law of recovery does not speak of it: the points are not the same, nor may they come after
-- the mark
not_in_turn : are_in_turn (not_pending lost_late) (pending lost_late) ≡ false
unfolding same_series series_before series_cmp scope_cmp metric_cmp
not_in_turn = refl

-- the points of both rounds, each for itself, are what the posts bring: they are in turn, and
-- nothing else is known
abbrev rounds : List History
rounds = (Start ▸ Admit 1 (batch 65 (point req 10 20 5 ∷ [])) ▸ Confirm 1)
    ∷ (Start ▸ Admit 2 (batch 65 (point req 20 30 7 ∷ [])) ▸ Confirm 2) ∷ []

same_posts : homes (unfolded [] rounds) ≡ all_points posts
same_posts = refl

rounds_in_turn : are_in_turn [] (homes (unfolded [] rounds)) ≡ true
unfolding same_series series_cmp scope_cmp metric_cmp
rounds_in_turn = refl

nothing_sent : filter is_not_home (unfolded [] rounds) ≡ []
nothing_sent = refl

-- the same where a flush took the first point, was settled, and a kill came before that was known:
-- what it sent is pending without it
abbrev flushed : History
flushed = Start ▸ Take 1 (req ∷ []) ▸ Settle 1 ▸ Admit 2 (batch 65 (point req 20 30 7 ∷ [])) ▸
    Confirm 2 ▸ Take 2 (req ∷ [])

abbrev before : History
before = Start ▸ Admit 1 (batch 65 (point req 10 20 5 ∷ [])) ▸ Confirm 1

nothing_left : pending (before then flushed) ≡ []
unfolding same_series series_cmp scope_cmp metric_cmp
nothing_left = refl

all_left : pending (before then unflushed flushed) ≡ all_points posts
all_left = refl

-- a journal has the second post, and not a third, which is open where the kill came
abbrev is_second : ℕ → Bool
is_second b = b == 2

abbrev killed : History
killed = flushed ▸ Admit 3 (batch 65 (point req 30 40 1 ∷ []))

second_open : open_batches (before then killed) ≡ 3 ∷ []
second_open = refl

none_open : open_batches (before then survived is_second killed) ≡ []
none_open = refl

two_left : pending (before then survived is_second killed) ≡ all_points posts
two_left = refl

-- two senders' posts in another order: the same points within each series
abbrev ab : History
ab = readmitted Start (record { number = 1; body = batch 65 (point (of_name 97) 10 20 5 ∷ []) }
    ∷ record { number = 2; body = batch 66 (point (of_name 98) 10 20 7 ∷ []) } ∷ [])

abbrev ba : History
ba = readmitted Start (record { number = 1; body = batch 66 (point (of_name 98) 10 20 7 ∷ []) }
    ∷ record { number = 2; body = batch 65 (point (of_name 97) 10 20 5 ∷ []) } ∷ [])

within_one : of_series (of_name 97) (pending ba) ≡ of_series (of_name 97) (pending ab)
unfolding same_series series_cmp scope_cmp metric_cmp
within_one = refl

same_pick : pick ba 10 ≡ pick ab 10
unfolding same_series series_before series_cmp scope_cmp metric_cmp
same_pick = refl

-- the sum alone is not enough: these have the same one, and send other points
abbrev wider : History
wider = readmitted Start (record { number = 1; body = batch 65 (point req 5 20 5 ∷ []) } ∷ [])

abbrev narrower : History
narrower = readmitted Start (record { number = 1; body = batch 65 (point req 10 20 5 ∷ []) } ∷ [])

same_sums : sum_where is_home req (points wider) ≡ sum_where is_home req (points narrower)
unfolding same_series series_before series_cmp scope_cmp metric_cmp
same_sums = refl

sent_wider : flush_points (wider ▸ Take 1 (req ∷ [])) 1 ≡ point req 5 20 5 ∷ []
unfolding same_series series_before series_cmp scope_cmp metric_cmp
sent_wider = refl

sent_narrower : flush_points (narrower ▸ Take 1 (req ∷ [])) 1 ≡ point req 10 20 5 ∷ []
unfolding same_series series_before series_cmp scope_cmp metric_cmp
sent_narrower = refl
