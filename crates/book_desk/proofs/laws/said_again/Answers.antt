use Rattle.std.proofs.Common.{◌≡◌}
use Rattle.std.specs.List.{flat_map}
use Rattle.book_desk.specs.Splits.{points_in}
use Rattle.book_desk.proofs.SaidAgain.{parts_again}
use Rattle.book_desk.proofs.laws.said_again.Goals as goal

pub returns : goal.returns
returns c = record {
  same = λ books sender another window t counts again parts made names words kept said put.
      let same : put.0.points ≡ flat_map points_in parts = cc in
      parts_again books sender another window t.points put.0.points parts made same kept.split
      put.2.split;
}
