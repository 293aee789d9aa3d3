use Rattle.json_points.specs.inner.Slots.{slot_data}
use Rattle.json_points.proofs.PairLemmas.{set_moved_back}
use Rattle.json_points.proofs.set_cache.SetCache.look_up.Goals as goal

pub returns : goal.returns
returns c = set_moved_back (slot_data c.args.found.now) _ _ c.share_at.result
    c.in_ok-count.ensures.pairs c.sort_pairs.ensures c.share_at.ensures
