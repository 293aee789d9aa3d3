use Rattle.otlp_read.specs.declared.place.Place.TheVariants.{DataPoints}
use Rattle.json_points.proofs.metrics.add_sum.Goals as goal

pub returns : goal.returns
returns c =
    let list = c.in_ok-list.ensures in (
      list.0,
      rw (← c.field.ensures) (list.2 DataPoints),
      rw (← c.sum_stream_in-stream.ensures)
          (c.in_ok-points.ensures list.0 list.1),
    )
