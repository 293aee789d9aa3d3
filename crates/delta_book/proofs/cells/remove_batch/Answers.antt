use Rattle.delta_book.proofs.Removing.{pending_whole, removes_whole}
use Rattle.delta_book.proofs.cells.remove_batch.Goals as goal

pub remove_parts-requires : goal.remove_parts-requires
remove_parts-requires c =
    pending_whole c.args.cells.now.items c.args.number c.args.batch.now c.requires

pub returns : goal.returns
returns c = removes_whole c.args.cells.now.items c.remove_parts.new.cells.items c.args.number
    c.args.batch.now c.remove_parts.ensures
