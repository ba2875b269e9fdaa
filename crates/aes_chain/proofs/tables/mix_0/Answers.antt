use Rattle.aes_chain.proofs.Boxes.{MIX_0-is}
use Rattle.aes_chain.proofs.tables.mix_0.Goals as goal

pub returns : goal.returns
returns c = MIX_0-is c.args.b c.ranges.b.fits
