use Rattle.std.proofs.Common.{arith}
use Rattle.series_cell.proofs.Block.{written}
use Rattle.series_cell.proofs.row_block.take_from.Goals as goal

pub returns-clause-rest : goal.returns-clause-rest
returns-clause-rest c =
    (written c.args.row _ _ c.args.words.now c.sub_from.new.dst c.requires.row
    c.row_start-start.ensures.value (omega (arith, c.requires.same)) c.sub_from.auto.dst).rest
