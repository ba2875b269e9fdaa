use Rattle.aes_chain.proofs.Boxes.{INV_MIX_3-is}
use Rattle.aes_chain.proofs.tables.inv_mix_3.Goals as goal

pub returns : goal.returns
returns c = INV_MIX_3-is c.args.b c.ranges.b.fits
