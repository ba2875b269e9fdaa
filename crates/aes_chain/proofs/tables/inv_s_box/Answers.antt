use Rattle.aes_chain.proofs.Boxes.{INV_S_BOX-is}
use Rattle.aes_chain.proofs.tables.inv_s_box.Goals as goal

pub returns : goal.returns
returns c = INV_S_BOX-is c.args.b c.ranges.b.fits
