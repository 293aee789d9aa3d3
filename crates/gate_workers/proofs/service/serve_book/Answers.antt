use Rattle.gate_workers.proofs.BookServes.{served_keeper}
use Rattle.gate_workers.proofs.service.serve_book.Goals as goal

pub returns : goal.returns
returns g c =
    let s = served_keeper g.U.Uplink.sends _ _ _ _ _ _ c.serve.ensures.served in
    record {
      seat = s.seat;
      max = s.max;
      served = s.served;
      stops = c.serve.ensures.stops;
      read =
          c.serve.ensures.read;
      written = c.serve.ensures.written;
      paced = c.serve.ensures.paced;
    }
