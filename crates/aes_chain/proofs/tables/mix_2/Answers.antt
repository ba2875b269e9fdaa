use Rattle.aes_chain.proofs.Boxes.{MIX_2-is}
use Rattle.aes_chain.proofs.tables.mix_2.Goals as goal

pub returns : goal.returns
returns c = MIX_2-is c.args.b c.ranges.b.fits
