use Rattle.std.proofs.Common.{map, ap, ◌∙◌}
use Rattle.series_id.specs.Sorting.{pair_of as pair_in}
use Rattle.json_points.proofs.PairLemmas.{set_is}
use Rattle.json_points.proofs.set_cache.is_set.Goals as goal

pub returns : goal.returns
returns c = record {
  only = λ limits same. set_is _ c.args.set.now limits
      (c.are_pairs.ensures.only same ∙ ap (map pair_in) c.pairs.ensures);
}
