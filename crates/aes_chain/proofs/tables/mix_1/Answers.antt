use Rattle.aes_chain.proofs.Boxes.{MIX_1-is}
use Rattle.aes_chain.proofs.tables.mix_1.Goals as goal

pub returns : goal.returns
returns c = MIX_1-is c.args.b c.ranges.b.fits
