use Rattle.metric_events.proofs.Turns.{in_turn_law, rested_law}
use Rattle.metric_events.proofs.Unflushing.{unflushed_law, cut_off_law}
use Rattle.metric_events.proofs.Surviving.{survives_law}
use Rattle.metric_events.proofs.Posting.{senders_law, life_senders_law, posts_law, last_law}
use Rattle.metric_events.proofs.Parts.{parts_law, parts_order_law, taken_back_law}
use Rattle.metric_events.proofs.Apart.{apart_law}
use Rattle.metric_events.proofs.laws.recovery.Goals as goal

pub returns : goal.returns
returns c = record {
  in_turn = in_turn_law;
  rested = rested_law;
  unflushed =
      unflushed_law;
  cut_off = cut_off_law;
  survived = survives_law;
  senders =
      senders_law;
  all_senders = life_senders_law;
  posts = posts_law;
  last = last_law;
  parts =
      parts_law;
  parts_order = parts_order_law;
  apart = apart_law;
  taken_back =
      taken_back_law;
}
