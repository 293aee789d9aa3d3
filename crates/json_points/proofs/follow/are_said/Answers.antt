use Rattle.std.proofs.Common.{ap, sym, map, Some, ◌∙◌}
use Rattle.series_id.specs.Sorting.{pair_of as pair_in}
use Rattle.otlp_read.specs.Attributes.{pair_of}
use Rattle.otlp_read.specs.Lists.{list_in}
use Rattle.json_points.specs.inner.Nodes.{data_at}
use Rattle.json_points.specs.inner.Slots.{slot_data}
use Rattle.json_points.proofs.FollowLemmas.{no_length}
use Rattle.json_points.proofs.ListLemmas.{list_there, no_list}
use Rattle.json_points.proofs.follow.are_said.Goals as goal

pub returns-in_default : goal.returns-in_default
returns-in_default c = record {
  only = λ empty.
      let none = no_length c.args.its.now _ c.is_empty.ensures empty in
      ap (λ o. list_in pair_of (slot_data o)) c.in_default.is ∙ no_list pair_of
      ∙ ap (λ xs. Some (map pair_in xs)) (sym none);
}

pub returns : goal.returns
returns c =
    let f = c.in-Some-items.ensures.found in
    record {
      only = λ same.
          ap (λ o. list_in pair_of (slot_data o)) c.in-Some.is
          ∙ list_there pair_of (data_at c.in-Some.node) f.0 _ f.1
          (c.are_nodes.ensures.only same f.0 f.2);
    }
