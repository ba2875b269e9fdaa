use Rattle.aes_chain.proofs.Boxes.{MIX_3-is}
use Rattle.aes_chain.proofs.tables.mix_3.Goals as goal

pub returns : goal.returns
returns c = MIX_3-is c.args.b c.ranges.b.fits
