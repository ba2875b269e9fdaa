use Rattle.aes_chain.proofs.Boxes.{S_BOX-is}
use Rattle.aes_chain.proofs.tables.s_box.Goals as goal

pub returns : goal.returns
returns c = S_BOX-is c.args.b c.ranges.b.fits
