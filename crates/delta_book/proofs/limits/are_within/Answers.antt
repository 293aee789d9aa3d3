use Rattle.delta_book.proofs.Within.{within_is}
use Rattle.delta_book.proofs.limits.are_within.Goals as goal

pub returns : goal.returns
returns c =
    within_is c.fits.result c.args.most c.args.row.now c.args.more.now c.requires c.fits.ensures
